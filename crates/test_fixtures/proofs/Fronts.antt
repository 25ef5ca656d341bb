-- Lemmas about the first items of two lists, compared place by place.
use Rattle.std.proofs.Common.{◌≡◌, ℕ, ◌+◌, ◌<◌, ◌≤◌, ◌∙◌, sym, ap, arith, List, length, take}
use Rattle.std.proofs.Common.{slice_get, Some, None, min, get_or, option_map}
use Rattle.std.proofs.lemmas.List.{take_more_same, get_or-take, length-take}
use Rattle.std.proofs.lemmas.Option.{slice_get_within, get_or_from_slice_get, slice_get-get_or}
use Rattle.std.proofs.lemmas.Option.{slice_get-map, slice_get_past}
use Rattle.std.specs.Borrow.{Bor}
use Rattle.test_fixtures.specs.Records.{values}

-- the item of `values xs` at a place is what the reference at this place refers to
pub values_within : (xs : List (Bor (List ℕ))) (i : ℕ) (x : Bor (List ℕ)) → i < length xs → x
    ≡ get_or xs i x → slice_get (values xs) i ≡ Some x.now
values_within xs i x l e =
    slice_get-map (λ (y : Bor (List ℕ)). y.now) xs i
    ∙ ap (option_map (λ (y : Bor (List ℕ)). y.now))
    (slice_get-get_or xs i x l ∙ ap Some (sym e))

-- an item of `values xs` at a place is equal to what the reference at this place refers to
pub values_same : (xs : List (Bor (List ℕ))) (i : ℕ) (x : Bor (List ℕ)) (r : List ℕ) → i < length xs
    → x ≡ get_or xs i x → slice_get (values xs) i ≡ Some r → r ≡ x.now
values_same xs i x r l e s =
    sym (get_or_from_slice_get (values xs) i r r s)
    ∙ get_or_from_slice_get (values xs) i x.now r (values_within xs i x l e)

-- there is no item after the last reference
pub values_past : (xs : List (Bor (List ℕ))) (i : ℕ) → length xs ≤ i → slice_get (values xs) i
    ≡ None
values_past xs i l = slice_get-map (λ (y : Bor (List ℕ)). y.now) xs i
    ∙ ap (option_map (λ (y : Bor (List ℕ)). y.now)) (slice_get_past xs i l)

-- if the first i items are the same, and the items at place i are, then so are the first i + 1
pub front_more : (rs vs : List (List ℕ)) (i : ℕ) (r : List ℕ) → slice_get rs i ≡ Some r
    → slice_get vs i ≡ Some r → take i vs ≡ take i rs → take (i + 1) vs ≡ take (i + 1) rs
front_more rs vs i r a b e =
    take_more_same vs rs i r (slice_get_within vs i r b) (slice_get_within rs i r a) e
    (get_or_from_slice_get vs i r r b ∙ sym (get_or_from_slice_get rs i r r a))

-- each item of a list that begins another one is in the other one at the same place
pub front_at : (rs vs : List (List ℕ)) (i : ℕ) (r : List ℕ) → slice_get rs i ≡ Some r
    → take (length rs) vs ≡ rs → slice_get vs i ≡ Some r
front_at rs vs i r a e =
    let within : i < length rs = slice_get_within rs i r a in
    let long : min (length rs) (length vs) ≡ length rs = sym (length-take (length rs) vs)
    ∙ ap length e in
    let inside : i < length vs = omega arith in
    let same : get_or vs i r ≡ get_or rs i r = sym (get_or-take (length rs) vs i r within)
    ∙ ap (λ xs. get_or xs i r) e in
    slice_get-get_or vs i r inside ∙ ap Some (same ∙ get_or_from_slice_get rs i r r a)

-- the lemmas about the item at a place
pub ruleset value_steps = (values_within, values_same, values_past)
