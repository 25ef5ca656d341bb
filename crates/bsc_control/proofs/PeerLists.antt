-- What a change of one element keeps of a list.
use Rattle.std.proofs.Common.{◌≡◌, ◌≢◌, ℕ, zero, suc, ◌≤◌, List, [], ◌∷◌, length, map}
use Rattle.std.proofs.Common.{◌+◌, ◌<◌, ◌++◌, take, drop, get_or, set, refl, sym, ◌∙◌, ap, subst, arith}
use Rattle.std.proofs.lemmas.List.Edits.{map_over_more}

-- an element is replaced by one at which the function has the same value: so it has at each place
pub value_kept_by_set : {X B : Type 0} (f : X → B) (xs : List X) (i j : ℕ) (y d : X) → f y ≡ f (get_or xs i d)
    → f (get_or (set xs i y) j d) ≡ f (get_or xs j d)
value_kept_by_set f [] i j y d same = refl
value_kept_by_set f (x ∷ xs) zero zero y d same = same
value_kept_by_set f (x ∷ xs) zero (suc j) y d same = refl
value_kept_by_set f (x ∷ xs) (suc i) zero y d same = refl
value_kept_by_set f (x ∷ xs) (suc i) (suc j) y d same = value_kept_by_set f xs i j y d same

-- and the list of all its values stays
pub map_kept_by_set : {X B : Type 0} (f : X → B) (xs : List X) (i : ℕ) (y d : X) → f y ≡ f (get_or xs i d)
    → map f (set xs i y) ≡ map f xs
map_kept_by_set f [] i y d same = refl
map_kept_by_set f (x ∷ xs) zero y d same = ap (λ b. b ∷ map f xs) same
map_kept_by_set f (x ∷ xs) (suc i) y d same = ap (λ bs. f x ∷ bs) (map_kept_by_set f xs i y d same)

-- at the replaced place the function has the new value, or that of the default
pub value_at_set_place : {X B : Type 0} (f : X → B) (xs : List X) (i : ℕ) (y d : X) → f d ≡ f y
    → f (get_or (set xs i y) i d) ≡ f y
value_at_set_place f [] i y d same = same
value_at_set_place f (x ∷ xs) zero y d same = refl
value_at_set_place f (x ∷ xs) (suc i) y d same = value_at_set_place f xs i y d same

-- what holds of the new element and of all others holds at each place
pub holds_after_set : {X : Type 0} (P : ℕ → X → Type 0) (xs : List X) (i : ℕ) (y d : X) → P i y
    → (length xs ≤ i → P i d) → ((j : ℕ) → j ≢ i → P j (get_or xs j d)) → (j : ℕ)
    → P j (get_or (set xs i y) j d)
holds_after_set P [] zero y d new past others zero = past (omega arith)
holds_after_set P [] zero y d new past others (suc j) = others (suc j) (λ e. omega (arith, e))
holds_after_set P [] (suc i) y d new past others zero = others 0 (λ e. omega (arith, e))
holds_after_set P [] (suc i) y d new past others (suc j) =
    holds_after_set (λ k x. P (suc k) x) [] i y d new (λ le. past (omega arith))
    (λ k ne. others (suc k) (λ e. ne (omega (arith, e)))) j
holds_after_set P (x ∷ xs) zero y d new past others zero = new
holds_after_set P (x ∷ xs) zero y d new past others (suc j) = others (suc j) (λ e. omega (arith, e))
holds_after_set P (x ∷ xs) (suc i) y d new past others zero = others 0 (λ e. omega (arith, e))
holds_after_set P (x ∷ xs) (suc i) y d new past others (suc j) =
    holds_after_set (λ k z. P (suc k) z) xs i y d new (λ le. past (omega (arith, le)))
    (λ k ne. others (suc k) (λ e. ne (omega (arith, e)))) j

-- a loop that writes f x over each element x writes the element at i
pub map_with_one_more : {X : Type 0} (f : X → X) (xs ys zs : List X) (i : ℕ) (x y : X)
    → i < length zs → zs ≡ xs → ys ≡ map f (take i xs) ++ drop i xs → x ≡ get_or ys i x
    → y ≡ f (get_or ys i x) → set ys i y ≡ map f (take (i + 1) xs) ++ drop (i + 1) xs
map_with_one_more f xs ys zs i x y within all so_far read written =
    ap (set ys i) (written ∙ ap f (sym read))
    ∙ map_over_more f xs ys i x (subst (λ (l : List _). i < length l) all within) so_far read
