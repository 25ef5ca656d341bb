-- The first address that came before.
use Rattle.std.proofs.Common.{◌≡◌, ◌≢◌, ◌==◌, ℕ, zero, suc, ◌<◌, ◌≤◌, List, [], ◌∷◌, ◌++◌, length}
use Rattle.std.proofs.Common.{get_or, Some, refl, sym, ◌∙◌, ap, subst, arith, append_assoc}
use Rattle.std.proofs.Common.{length-append}
use Rattle.std.proofs.Math.Seq.{take-append_seam}
use Rattle.std.proofs.lemmas.List.{take-append-le, length-map}
use Rattle.std.proofs.lemmas.List.Quantifiers.{position-Some}
use Rattle.std.proofs.lemmas.Map.Made.{AllPairs-from_IsDistinct}
use Rattle.std.proofs.lemmas.Option.{slice_get-get_or}
use Rattle.std.proofs.lemmas.Slice.Eq.{bytes_eq-Decides}
use Rattle.std.specs.List.{AllPairs, IsDistinct, slice_get, position}
use Rattle.std.specs.Map.{keys_of}
use lib.Pointwise.{pointwise}
use Rattle.bsc_bid.specs.declared.refusal.SetupError.{SetupError}
use Rattle.bsc_bid.specs.declared.refusal.SetupError.TheVariants.{NoTerminal, TooMany}
use Rattle.bsc_bid.specs.declared.refusal.SetupError.TheVariants.{SameAddress, EmptyPollList}
use Rattle.bsc_bid.specs.declared.refusal.SetupError.TheVariants.{PollList, Memory}
use Rattle.bsc_bid.specs.Refusals.{IsFirstRepeat, RefusesAddresses}
use Rattle.bsc_bid.proofs.Owners.{Owner}

-- keys that differ by the comparison differ
pub all_differ : (xs : List (List ℕ)) → IsDistinct (pointwise ◌==◌) xs → AllPairs (λ a b. a ≢ b) xs
all_differ xs h = AllPairs-from_IsDistinct bytes_eq-Decides xs h

slice_get_front : (xs ys : List (List ℕ)) (k : ℕ) → k < length xs → slice_get (xs ++ ys) k
    ≡ slice_get xs k
slice_get_front [] ys k within = absurd (omega (arith, within))
slice_get_front (x ∷ xs) ys zero within = refl
slice_get_front (x ∷ xs) ys (suc k) within = slice_get_front xs ys k (omega arith)

slice_get_seam : (xs ys : List (List ℕ)) (y : List ℕ) → slice_get (xs ++ y ∷ ys) (length xs)
    ≡ Some y
slice_get_seam [] ys y = refl
slice_get_seam (x ∷ xs) ys y = slice_get_seam xs ys y

-- the first repeat stays the first whatever comes after it
repeat_more : (xs ys : List (List ℕ)) (i j : ℕ) → IsFirstRepeat xs i j
    → IsFirstRepeat (xs ++ ys) i j
repeat_more xs ys i j h =
    let before : i < j = h.before in
    let within : j < length xs = h.within in
    let below : i < length xs = omega arith in
    let upto : j ≤ length xs = omega arith in
    record {
      before = before;
      within = omega (arith, within, length-append xs ys);
      same = slice_get_front xs ys i below ∙ h.same ∙ sym (slice_get_front xs ys j within);
      first = subst (AllPairs (λ a b. a ≢ b)) (sym (take-append-le j xs ys upto)) h.first;
    }

-- so does a refusal
pub refuses_more : (old more rest : List (List ℕ)) (e : SetupError) → RefusesAddresses old more e
    → RefusesAddresses old (more ++ rest) e
refuses_more old more rest Memory h = tt
refuses_more old more rest (SameAddress i j) h =
    subst (λ xs. IsFirstRepeat xs i j) (append_assoc old more rest)
    (repeat_more (old ++ more) rest i j h)
refuses_more old more rest NoTerminal h = absurd h
refuses_more old more rest TooMany h = absurd h
refuses_more old more rest EmptyPollList h = absurd h
refuses_more old more rest (PollList place) h = absurd h

-- the addresses entered before may be counted as new ones
pub refuses_earlier : (old first more : List (List ℕ)) (e : SetupError)
    → RefusesAddresses (old ++ first) more e → RefusesAddresses old (first ++ more) e
refuses_earlier old first more Memory h = tt
refuses_earlier old first more (SameAddress i j) h =
    subst (λ xs. IsFirstRepeat xs i j) (append_assoc old first more) h
refuses_earlier old first more NoTerminal h = absurd h
refuses_earlier old first more TooMany h = absurd h
refuses_earlier old first more EmptyPollList h = absurd h
refuses_earlier old first more (PollList place) h = absurd h

-- an address that is found among keys that differ is the first repeat
pub first_repeat : (es : List Owner) (a : List ℕ) (i n : ℕ)
    → position (pointwise ◌==◌ a) (keys_of es) ≡ Some i → n ≡ length es
    → IsDistinct (pointwise ◌==◌) (keys_of es) → IsFirstRepeat (keys_of es ++ a ∷ []) i n
first_repeat es a i n found counted distinct =
    let ks : List (List ℕ) = keys_of es in
    let long : length ks ≡ length es = length-map es (λ (e : Owner). e.0) in
    let at = position-Some (pointwise ◌==◌ a) ks i a found in
    let below : i < length ks = at.0 in
    let same : a ≡ get_or ks i a = (bytes_eq-Decides a (get_or ks i a)).0 at.1 in
    let last : n ≡ length ks = counted ∙ sym long in
    subst (λ (m : ℕ). IsFirstRepeat (ks ++ a ∷ []) i m) (sym last)
    (record {
      before = below;
      within = omega (arith, length-append ks (a ∷ []));
      same = slice_get_front ks (a ∷ []) i below ∙ slice_get-get_or ks i a below
          ∙ ap Some (sym same) ∙ sym (slice_get_seam ks [] a);
      first =
          subst (AllPairs (λ x y. x ≢ y)) (sym (take-append_seam ks (a ∷ [])))
          (all_differ ks distinct);
    })
