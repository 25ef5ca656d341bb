-- Splitting a text at the first octet that passes a test.
use Rattle.std.proofs.Common.{◌≡◌, ◌≤◌, ℕ, ◌+◌, List, [], ◌∷◌, Bool, true, false, cond, Some, None}
use Rattle.std.proofs.Common.{length, take, drop, refl, ap, subst, arith}
use Rattle.std.specs.List.{before_first, position, position_or_len, slice_split}
use Rattle.std.proofs.lemmas.List.{take_all}
use Rattle.std.proofs.lemmas.Bool.{ltb-true, ltb-false}
use Rattle.std.proofs.lemmas.Option.{same_Some}
use Rattle.std.proofs.lemmas.List.Splits.{slice_split_first, slice_split_none}
use Rattle.std.proofs.lemmas.List.Sums.{fails_before_first}

-- the test of a choice between `Some` and `None`
pub test_of_some : (b : Bool) (k i : ℕ) → cond b (Some k) None ≡ Some i → (b ≡ true) × (k ≡ i)
test_of_some true k i e = (refl, same_Some k i e)
test_of_some false k i e = cc

test_of_none : (b : Bool) (k : ℕ) → cond b (Some k) None ≡ None → b ≡ false
test_of_none true k e = cc
test_of_none false k e = refl

-- the text before that octet
pub before_first_some : (p : ℕ → Bool) (xs : List ℕ) (i : ℕ) → position p xs ≡ Some i
    → before_first p xs ≡ take i xs
before_first_some p xs i e = ap (λ k. take k xs) (test_of_some _ (position_or_len p xs) i e).1

pub before_first_none : (p : ℕ → Bool) (xs : List ℕ) → position p xs ≡ None → before_first p xs ≡ xs
before_first_none p xs e =
    take_all (position_or_len p xs) xs (ltb-false _ _ (test_of_none _ (position_or_len p xs) e))

pub slice_split_finds_some : (p : ℕ → Bool) (xs : List ℕ) (i : ℕ) → position p xs ≡ Some i
    → slice_split p xs ≡ take i xs ∷ slice_split p (drop (i + 1) xs)
slice_split_finds_some p xs i e =
    let test = test_of_some _ (position_or_len p xs) i e in
    let P : ℕ → Type 0 = λ k. slice_split p xs ≡ take k xs ∷ slice_split p (drop (k + 1) xs) in
    subst P test.1 (slice_split_first p xs 0 (ltb-true _ _ test.0))

pub slice_split_finds_none : (p : ℕ → Bool) (xs : List ℕ) → position p xs ≡ None → slice_split p xs ≡ xs
    ∷ []
slice_split_finds_none p xs e =
    let long : length xs ≤ position_or_len p xs =
    ltb-false _ _ (test_of_none _ (position_or_len p xs) e) in
    slice_split_none p xs (λ k d below. fails_before_first p xs k d (omega arith))
