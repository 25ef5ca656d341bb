-- Properties that hold of each element of a list.
use Rattle.std.proofs.Common.{◌≡◌, ℕ, zero, suc, ◌+◌, ◌≤◌, Bool, true, false, not, cond, refl}
use Rattle.std.proofs.Common.{arith, List, [], ◌∷◌, ◌++◌, length, take, drop, Some, None, IsTrue}
use Rattle.std.proofs.Common.{position, nat_lt, slice_get}
use Rattle.std.specs.List.{AllByRecursion, position_or_len}
use Rattle.std.proofs.lemmas.Bool.Decides.{nat_tests}

-- For the elements of a front.
pub all_take : {A : Type 0} (P : A → Type 0) (n : ℕ) (xs : List A) → AllByRecursion P xs
    → AllByRecursion P (take n xs)
all_take P zero xs h = tt
all_take P (suc n) [] h = tt
all_take P (suc n) (x ∷ xs) h = (h.0, all_take P n xs h.1)

-- For the elements after a front.
pub all_drop : {A : Type 0} (P : A → Type 0) (n : ℕ) (xs : List A) → AllByRecursion P xs
    → AllByRecursion P (drop n xs)
all_drop P zero xs h = h
all_drop P (suc n) [] h = tt
all_drop P (suc n) (x ∷ xs) h = all_drop P n xs h.1

-- For two lists, one after the other.
pub all_append : {A : Type 0} (P : A → Type 0) (xs ys : List A) → AllByRecursion P xs
    → AllByRecursion P ys → AllByRecursion P (xs ++ ys)
all_append P [] ys h k = k
all_append P (x ∷ xs) ys h k = (h.0, all_append P xs ys h.1 k)

-- For the element at one place.
pub all_slice_get : {A : Type 0} (P : A → Type 0) (xs : List A) (i : ℕ) (x : A)
    → AllByRecursion P xs → slice_get xs i ≡ Some x → P x
all_slice_get P [] i x h e = absurd (cc)
all_slice_get P (y ∷ xs) zero x h e = let same : y ≡ x = cc in rw (← same) h.0
all_slice_get P (y ∷ xs) (suc i) x h e = all_slice_get P xs i x h.1 e

-- The step from a list to one with another element in front, in a search for an element that fails.
passed_head : (p : ℕ → Bool) (c : ℕ) (cs : List ℕ) (b : Bool) → p c ≡ b
    → (length cs ≤ position_or_len (λ c. not (p c)) cs → AllByRecursion (λ c. IsTrue (p c)) cs)
    → length (c ∷ cs) ≤ cond (not (not b)) (1 + position_or_len (λ c. not (p c)) cs) 0
    → (p c ≡ true) × AllByRecursion (λ c. IsTrue (p c)) cs
passed_head p c cs true e f k = (e, f (omega arith))
passed_head p c cs false e f k = absurd (omega arith)

-- If a search for an element that fails passes the whole list, each element passes.
passed_all : (p : ℕ → Bool) (cs : List ℕ) → length cs ≤ position_or_len (λ c. not (p c)) cs
    → AllByRecursion (λ c. IsTrue (p c)) cs
passed_all p [] h = tt
passed_all p (c ∷ cs) h = passed_head p c cs (p c) refl (passed_all p cs) h

-- A search that finds nothing has passed the whole list.
found_none : (n l : ℕ) → cond (nat_lt n l) (Some n) None ≡ None → l ≤ n
found_none n l e = grind (arith, nat_tests)

-- If no element that fails is found, each element passes.
pub none_fails : (p : ℕ → Bool) (cs : List ℕ) → position (λ c. not (p c)) cs ≡ None
    → AllByRecursion (λ c. IsTrue (p c)) cs
none_fails p cs e = passed_all p cs (found_none (position_or_len (λ c. not (p c)) cs) (length cs) e)
