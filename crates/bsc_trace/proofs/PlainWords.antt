-- The words of a text, between its spaces.
use Rattle.std.proofs.Common.{◌≡◌, ◌<◌, ℕ, ◌+◌, ◌==◌, List, [], ◌∷◌, ◌++◌, Bool, true, false}
use Rattle.std.proofs.Common.{cond, not, length, drop, suc, Option, Some, option_map, option_and_then}
use Rattle.std.proofs.Common.{position, refl, sym, ap, ◌∙◌, arith, eqb-true, true≢false}
use Rattle.std.proofs.Math.Seq.{take-append_seam}
use Rattle.std.proofs.lemmas.Bool.{and_parts}
use Rattle.std.proofs.lemmas.List.Splits.{length-slice_split, slice_split-cons_no}
use Rattle.std.proofs.lemmas.List.Splits.{slice_split-cons_yes}
use Rattle.std.proofs.lemmas.List.Sums.{sum_by-append, sum_by-cons}
use Rattle.std.specs.List.{list_all, onto_first}
use Rattle.bsc_text.specs.Parts.{parts_at}
use Rattle.bsc_text.proofs.Splitting.{before_first_some}
use Rattle.bsc_trace.specs.NamingLines.{last_part}
use Rattle.bsc_trace.proofs.Lists.{NonePasses, position-append}
use Rattle.bsc_trace.proofs.Parts.{last_part_more}
use Rattle.bsc_text.specs.Words.{after_word, first_word}

-- no octet is a space
abbrev pub IsWord : List ℕ → Type 0
IsWord = NonePasses (λ octet. octet == 32)

-- an octet that passes a test is none that does not
pub not_that : (p : ℕ → Bool) (value x : ℕ) → p value ≡ false → p x ≡ true → (x == value) ≡ false
not_that p value x none passes = by (x == value) refl
  where
    by : (b : Bool) → (x == value) ≡ b → b ≡ false
    by true e = absurd (true≢false (sym passes ∙ ap p (eqb-true x value e) ∙ none))
    by false e = refl

-- octets that pass a test that a space does not pass are a word
pub word_by : (p : ℕ → Bool) (word : List ℕ) → p 32 ≡ false → list_all p word ≡ true → IsWord word
word_by p [] none all = tt
word_by p (x ∷ word) none all =
    let both = and_parts (p x) (list_all p word) all in
    (not_that p 32 x none both.0, word_by p word none both.1)

-- the same of a word that is written out
pub letters : (word : List ℕ) → list_all (λ octet. not (octet == 32)) word ≡ true → IsWord word
letters word all = word_by (λ octet. not (octet == 32)) word refl all

drop_seam : (xs : List ℕ) (y : ℕ) (ys : List ℕ) → drop (length xs + 1) (xs ++ y ∷ ys) ≡ ys
drop_seam [] y ys = refl
drop_seam (x ∷ xs) y ys =
    let one_more : length (x ∷ xs) + 1 ≡ suc (length xs + 1) = omega arith in
    ap (λ n. drop n (x ∷ (xs ++ y ∷ ys))) one_more ∙ drop_seam xs y ys

module _ (word rest : List ℕ) (h : IsWord word) where
  first_space : position (λ octet. octet == 32) (word ++ 32 ∷ rest) ≡ Some (length word)
  first_space = position-append (λ octet. octet == 32) word 32 rest h refl

  -- a word before a space is the first one
  pub word_before : first_word (word ++ 32 ∷ rest) ≡ word
  word_before =
      before_first_some (λ octet. octet == 32) (word ++ 32 ∷ rest) (length word) first_space
      ∙ take-append_seam word (32 ∷ rest)

  pub rest_after : after_word (word ++ 32 ∷ rest) ≡ Some rest
  rest_after =
      ap (option_map (λ place. drop (place + 1) (word ++ 32 ∷ rest))) first_space
      ∙ ap Some (drop_seam word 32 rest)

  -- what is read by the first word and by the text after it
  pub by_word : {A : Type 0} (f : List ℕ → List ℕ → Option A)
      → option_and_then (f (first_word (word ++ 32 ∷ rest))) (after_word (word ++ 32 ∷ rest))
      ≡ f word rest
  by_word f =
      ap (option_and_then (f (first_word (word ++ 32 ∷ rest)))) rest_after
      ∙ ap (λ w. f w rest) word_before

-- the last of the parts of a text
last_onto : (x : ℕ) (parts : List (List ℕ)) → 1 < length parts
    → last_part (onto_first x parts) ≡ last_part parts
last_onto x [] more = absurd (omega arith)
last_onto x (part ∷ []) more = absurd (omega arith)
last_onto x (part ∷ next ∷ parts) more = refl

two_parts : (text rest : List ℕ) → 1 < length (parts_at 32 (text ++ 32 ∷ rest))
two_parts text rest =
    omega (
      arith,
      length-slice_split (λ octet. octet == 32) (text ++ 32 ∷ rest),
      sum_by-append (λ octet. cond (octet == 32) 1 0) text (32 ∷ rest),
      sum_by-cons (λ octet. cond (octet == 32) 1 0) 32 rest,
    )

one_part : (word : List ℕ) → IsWord word → parts_at 32 word ≡ word ∷ []
one_part [] h = refl
one_part (x ∷ word) h =
    slice_split-cons_no (λ octet. octet == 32) x word h.0 ∙ ap (onto_first x) (one_part word h.1)

last_more : (x : ℕ) (text word : List ℕ)
    → last_part (parts_at 32 (text ++ 32 ∷ word)) ≡ word
    → last_part (parts_at 32 (x ∷ (text ++ 32 ∷ word))) ≡ word
last_more x text word last = by (x == 32) refl
  where
    by : (b : Bool) → (x == 32) ≡ b → last_part (parts_at 32 (x ∷ (text ++ 32 ∷ word))) ≡ word
    by true e =
        ap last_part (slice_split-cons_yes (λ octet. octet == 32) x (text ++ 32 ∷ word) e)
        ∙ last_part_more 32 [] (text ++ 32 ∷ word) ∙ last
    by false e =
        ap last_part (slice_split-cons_no (λ octet. octet == 32) x (text ++ 32 ∷ word) e)
        ∙ last_onto x (parts_at 32 (text ++ 32 ∷ word)) (two_parts text word) ∙ last

-- a word after a space, at the end of a text, is the last one
pub last_after : (text word : List ℕ) → IsWord word
    → last_part (parts_at 32 (text ++ 32 ∷ word)) ≡ word
last_after [] word h =
    ap last_part (slice_split-cons_yes (λ octet. octet == 32) 32 word refl)
    ∙ last_part_more 32 [] word ∙ ap last_part (one_part word h)
last_after (x ∷ text) word h = last_more x text word (last_after text word h)
