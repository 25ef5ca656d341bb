-- The uses of standard input, by the first texts that are offered.
use Rattle.std.proofs.Common.{◌≡◌, ◌+◌, ◌≤◌, ◌<◌, ℕ, Bool, true, false, List, [], ◌∷◌}
use Rattle.std.proofs.Common.{map, take, length, get_or, refl, ap, sym, ◌∙◌, arith}
use Rattle.std.proofs.Common.{string_bytes}
use Rattle.std.specs.Prelude.{String, codes, count_by, unwrap_or}
use Rattle.std.proofs.lemmas.List.Sums.{count_by_more_no, count_by_more_yes, sum_by-cons}
use Rattle.std.proofs.lemmas.List.Sums.{sum_by-take-le}
use Rattle.bsc_options.specs.Words.{WordsValue, is_given, text_at, texts_at}
use Rattle.bsc_bid.specs.declared.speaker.Speaker.{Speaker}
use Rattle.bsc_options.specs.Inputs.{is_input, one_if, path_in, uses_of_input}

-- whether a text that is offered names standard input
abbrev pub names_input : {Z : Type 0} → Speaker → String Z → Bool
names_input speaker offer = is_input (path_in speaker (string_bytes offer))

-- the uses as the configuration and for the end of the station
abbrev pub uses_before : WordsValue → ℕ
uses_before w =
    one_if (is_input (unwrap_or (text_at (codes "CONFIG") w) []))
    + one_if (is_given (codes "until-input-ends") w)

count_cons : {X : Type 0} (p : X → Bool) (x : X) (xs : List X)
    → count_by p (x ∷ xs) ≡ one_if (p x) + count_by p xs
count_cons p x xs = sum_by-cons (λ y. one_if (p y)) x xs

count_paths : {Z : Type 0} (speaker : Speaker) (offers : List (String Z))
    → count_by is_input (map (path_in speaker) (map string_bytes offers))
    ≡ count_by (names_input speaker) offers
count_paths speaker [] = refl
count_paths speaker (offer ∷ offers) =
    count_cons is_input (path_in speaker (string_bytes offer))
    (map (path_in speaker) (map string_bytes offers))
    ∙ ap (λ n. one_if (names_input speaker offer) + n) (count_paths speaker offers)
    ∙ sym (count_cons (names_input speaker) offer offers)

-- all uses, where these are the texts that are offered
module _ {Z : Type 0} (w : WordsValue) (speaker : Speaker) (offers : List (String Z))
    (is : map string_bytes offers ≡ texts_at (codes "offer") w) where
  pub uses_all : uses_of_input w speaker
      ≡ uses_before w + count_by (names_input speaker) offers
  uses_all =
      let config = unwrap_or (text_at (codes "CONFIG") w) [] in
      let first = count_cons is_input config (map (path_in speaker) (texts_at (codes "offer") w)) in
      let same = ap (λ texts. count_by is_input (map (path_in speaker) texts)) is in
      let paths = count_paths speaker offers in
      omega arith

  -- the uses so far are no more than all
  pub uses_within : (n : ℕ)
      → uses_before w + count_by (names_input speaker) (take n offers) ≤ uses_of_input w speaker
  uses_within n =
      let all = uses_all in
      let front = sum_by-take-le (λ o. one_if (names_input speaker o)) offers n in
      omega arith

-- one more text
pub uses_more : {X : Type 0} (p : X → Bool) (xs : List X) (n : ℕ) (x : X) (b : Bool)
    → n < length xs → x ≡ get_or xs n x → p x ≡ b
    → count_by p (take (n + 1) xs) ≡ count_by p (take n xs) + one_if b
uses_more p xs n x true below here e =
    let more = count_by_more_yes p xs n x below (ap p (sym here) ∙ e) in omega arith
uses_more p xs n x false below here e =
    let more = count_by_more_no p xs n x below (ap p (sym here) ∙ e) in omega arith
