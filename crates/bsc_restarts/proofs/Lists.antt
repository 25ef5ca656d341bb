-- Elements of lists of which one is set.
use Rattle.std.proofs.Common.{◌≡◌, ◌≢◌, ◌∙◌, ◌≤◌, ◌<◌, ℕ, zero, suc, List, [], ◌∷◌, ◌++◌, replicate}
use Rattle.std.proofs.Common.{length, slice_index_or, slice_set, refl, sym, ap, subst, append-nil}
use Rattle.std.proofs.Common.{arith, inl, inr}
use Rattle.std.proofs.lemmas.Bool.{cases_lt}
use Rattle.std.specs.List.{AllByRecursion}
use Rattle.bsc_block.specs.Records.{forgotten}
use Rattle.bsc_block.proofs.Forgotten.{forgotten_fewer}
use Rattle.bsc_keeping.specs.Own.{each_of}

-- the others stay
pub other_of_set : {X : Type 0} (xs : List X) (i j : ℕ) (x d : X) → j ≢ i
    → slice_index_or (slice_set xs i x) j d ≡ slice_index_or xs j d
other_of_set [] i j x d other = refl
other_of_set (y ∷ ys) zero zero x d other = absurd (other refl)
other_of_set (y ∷ ys) zero (suc j) x d other = refl
other_of_set (y ∷ ys) (suc i) zero x d other = refl
other_of_set (y ∷ ys) (suc i) (suc j) x d other = other_of_set ys i j x d (λ e. other (ap suc e))

pub length_of_set : {X : Type 0} (xs : List X) (i : ℕ) (x : X)
    → length (slice_set xs i x) ≡ length xs
length_of_set [] i x = refl
length_of_set (y ∷ ys) zero x = refl
length_of_set (y ∷ ys) (suc i) x = omega (arith, length_of_set ys i x)

-- the one that is set is there
pub at_set : {X : Type 0} (xs : List X) (i : ℕ) (x d : X) → i < length xs
    → slice_index_or (slice_set xs i x) i d ≡ x
at_set [] i x d within = absurd (omega (arith, within))
at_set (y ∷ ys) zero x d within = refl
at_set (y ∷ ys) (suc i) x d within = at_set ys i x d (omega (arith, within))

-- after the last element there is none
pub index_after : {X : Type 0} (xs : List X) (i : ℕ) (d : X) → length xs ≤ i
    → slice_index_or xs i d ≡ d
index_after [] i d after = refl
index_after (x ∷ xs) zero d after = absurd (omega (arith, after))
index_after (x ∷ xs) (suc i) d after = index_after xs i d (omega (arith, after))

-- one more of the same
pub replicate_more : {X : Type 0} (n : ℕ) (x : X) → replicate n x ++ x ∷ [] ≡ replicate (suc n) x
replicate_more zero x = refl
replicate_more (suc n) x = ap (λ l. x ∷ l) (replicate_more n x)

-- of empty records nothing more is forgotten
pub empty_forgotten : (n k : ℕ) → k ≤ n → forgotten k (replicate n []) ≡ replicate n []
empty_forgotten n k few =
    ap (forgotten k) (sym (append-nil (replicate n [])))
    ∙ forgotten_fewer n k [] few ∙ append-nil (replicate n [])

-- what holds of each element of two lists holds of those of both, and the other way round
pub all_both : {X : Type 0} (P : X → Type 0) (xs ys : List X) → AllByRecursion P xs
    → AllByRecursion P ys → AllByRecursion P (xs ++ ys)
all_both P [] ys first second = second
all_both P (x ∷ xs) ys (one, first) second = (one, all_both P xs ys first second)

pub all_parts : {X : Type 0} (P : X → Type 0) (xs ys : List X) → AllByRecursion P (xs ++ ys)
    → AllByRecursion P xs × AllByRecursion P ys
all_parts P [] ys all = (tt, all)
all_parts P (x ∷ xs) ys (one, all) =
    let rest = all_parts P xs ys all in ((one, rest.0), rest.1)

-- what holds of each element of lists that are made place by place holds of those of each place
pub all_each : {X : Type 0} (P : X → Type 0) (f : ℕ → List X) (n i : ℕ) → i < n
    → AllByRecursion P (each_of f n) → AllByRecursion P (f i)
all_each P f zero i few all = absurd (omega (arith, few))
all_each P f (suc n) i few all =
    let parts = all_parts P (each_of f n) (f n) all in
    elim (cases_lt i n) [
      | inl before ↦ all_each P f n i before parts.0
      | inr from ↦
          let same : n ≡ i = omega (arith, few, from) in
          subst (λ k. AllByRecursion P (f k)) same parts.1
    ]

pub all_of_each : {X : Type 0} (P : X → Type 0) (f : ℕ → List X) (n : ℕ)
    → ((i : ℕ) → i < n → AllByRecursion P (f i)) → AllByRecursion P (each_of f n)
all_of_each P f zero each = tt
all_of_each P f (suc n) each =
    all_both P (each_of f n) (f n)
    (all_of_each P f n (λ i few. each i (omega (arith, few)))) (each n (omega arith))
