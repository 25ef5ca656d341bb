-- The place of the first element that passes a test, when a list is put together.
use Rattle.std.proofs.Common.{◌≡◌, ℕ, zero, suc, ◌+◌, ◌<◌, Bool, true, false, not, nat_lt, List, []}
use Rattle.std.proofs.Common.{◌∷◌, ◌++◌, length, get_or, position, Option, option_map, None, Some}
use Rattle.std.proofs.Common.{refl, sym, ◌∙◌, ap, arith, if◌then◌else◌}
use Rattle.std.proofs.lemmas.Bool.Decides.{nat_tests}
use Rattle.std.specs.List.{position_or_len}

-- the element at the front passes
pub position_at_front : {X : Type 0} → (p : X → Bool) (x : X) (xs : List X) → p x ≡ true
    → position p (x ∷ xs) ≡ Some 0
position_at_front p x xs e =
    let first : position_or_len p (x ∷ xs) ≡ 0 =
    ap (λ (b : Bool). if not b then 1 + position_or_len p xs else 0) e in
    let within : nat_lt 0 (length (x ∷ xs)) ≡ true = grind (arith, nat_tests) in
    ap (λ (k : ℕ). if nat_lt k (length (x ∷ xs)) then Some k else None) first
    ∙ ap (λ (b : Bool). if b then Some 0 else None) within

-- the element at the front does not pass
pub position_later : {X : Type 0} → (p : X → Bool) (x : X) (xs : List X) → p x ≡ false
    → position p (x ∷ xs) ≡ option_map (λ (k : ℕ). 1 + k) (position p xs)
position_later p x xs e =
    let n : ℕ = position_or_len p xs in
    let later : position_or_len p (x ∷ xs) ≡ 1 + n =
    ap (λ (b : Bool). if not b then 1 + position_or_len p xs else 0) e in
    ap (λ (k : ℕ). if nat_lt k (length (x ∷ xs)) then Some k else None) later
    ∙ by_tests (nat_lt (1 + n) (length (x ∷ xs))) (nat_lt n (length xs)) refl refl
  where
    by_tests : (a b : Bool) → nat_lt (1 + position_or_len p xs) (length (x ∷ xs)) ≡ a
        → nat_lt (position_or_len p xs) (length xs) ≡ b →
        (if a then Some (1 + position_or_len p xs) else None)
        ≡ option_map (λ (k : ℕ). 1 + k) (if b then Some (position_or_len p xs) else None)
    by_tests true true y z = refl
    by_tests false false y z = refl
    by_tests true false y z =
        absurd
        (let more : length (x ∷ xs) ≡ length xs + 1 = omega arith in grind (arith, nat_tests))
    by_tests false true y z =
        absurd
        (let more : length (x ∷ xs) ≡ length xs + 1 = omega arith in grind (arith, nat_tests))

-- tests that pass the same elements find the same one
pub position_alike : {X : Type 0} (p q : X → Bool) → ((x : X) → p x ≡ q x) → (xs : List X)
    → position p xs ≡ position q xs
position_alike p q same [] = refl
position_alike p q same (x ∷ xs) = by_front (position_alike p q same xs) (p x) refl
  where
    by_front : position p xs ≡ position q xs → (b : Bool) → p x ≡ b → position p (x ∷ xs) ≡ position q (x ∷ xs)
    by_front rest true e =
        position_at_front p x xs e ∙ sym (position_at_front q x xs (sym (same x) ∙ e))
    by_front rest false e =
        position_later p x xs e
        ∙ ap (option_map (λ (k : ℕ). 1 + k)) rest
        ∙ sym (position_later q x xs (sym (same x) ∙ e))

-- the first that passes in a list is the first in one that begins with it
pub position_in_front : {X : Type 0} (p : X → Bool) (xs ys : List X) (k : ℕ)
    → position p xs ≡ Some k → position p (xs ++ ys) ≡ Some k
position_in_front p [] ys k is = absurd (cc)
position_in_front p (x ∷ xs) ys k is = by_front (position_in_front p xs ys) (p x) refl
  where
    by_later : ((j : ℕ) → position p xs ≡ Some j → position p (xs ++ ys) ≡ Some j) → (o : Option ℕ) → position p xs ≡ o → p x ≡ false
        → option_map (λ (i : ℕ). 1 + i) o ≡ Some k → position p (x ∷ (xs ++ ys)) ≡ Some k
    by_later rest None e off at = absurd (cc)
    by_later rest (Some j) e off at =
        position_later p x (xs ++ ys) off
        ∙ ap (option_map (λ (i : ℕ). 1 + i)) (rest j e) ∙ at

    by_front : ((j : ℕ) → position p xs ≡ Some j → position p (xs ++ ys) ≡ Some j) → (b : Bool) → p x ≡ b → position p (x ∷ (xs ++ ys)) ≡ Some k
    by_front rest true e =
        position_at_front p x (xs ++ ys) e ∙ sym (position_at_front p x xs e) ∙ is
    by_front rest false e =
        by_later rest (position p xs) refl e (sym (position_later p x xs e) ∙ is)

-- if none passes in a list, the first that passes comes after it
pub position_behind : {X : Type 0} (p : X → Bool) (xs ys : List X) → position p xs ≡ None
    → position p (xs ++ ys) ≡ option_map (λ (k : ℕ). length xs + k) (position p ys)
position_behind p [] ys none = by_found (position p ys)
  where
    by_found : (o : Option ℕ) → o ≡ option_map (λ (k : ℕ). 0 + k) o
    by_found None = refl
    by_found (Some k) = ap Some (omega arith)
position_behind p (x ∷ xs) ys none = by_front (position_behind p xs ys) (p x) refl
  where
    one_more : (o : Option ℕ) → option_map (λ (k : ℕ). 1 + k) (option_map (λ (k : ℕ). length xs + k) o)
        ≡ option_map (λ (k : ℕ). length (x ∷ xs) + k) o
    one_more None = refl
    one_more (Some k) = ap Some (omega arith)

    by_later : (position p xs ≡ None
        → position p (xs ++ ys) ≡ option_map (λ (k : ℕ). length xs + k) (position p ys))
        → (o : Option ℕ) → position p xs ≡ o → p x ≡ false
        → option_map (λ (i : ℕ). 1 + i) o ≡ None
        → position p (x ∷ (xs ++ ys)) ≡ option_map (λ (k : ℕ). length (x ∷ xs) + k) (position p ys)
    by_later rest (Some j) e off at = absurd (cc)
    by_later rest None e off at =
        position_later p x (xs ++ ys) off
        ∙ ap (option_map (λ (i : ℕ). 1 + i)) (rest e)
        ∙ one_more (position p ys)

    by_front : (position p xs ≡ None
        → position p (xs ++ ys) ≡ option_map (λ (k : ℕ). length xs + k) (position p ys))
        → (b : Bool) → p x ≡ b
        → position p (x ∷ (xs ++ ys)) ≡ option_map (λ (k : ℕ). length (x ∷ xs) + k) (position p ys)
    by_front rest true e =
        absurd (let both : Some 0 ≡ None = sym (position_at_front p x xs e) ∙ none in cc)
    by_front rest false e =
        by_later rest (position p xs) refl e (sym (position_later p x xs e) ∙ none)

-- if none passes, no element does
pub none_passes : {X : Type 0} (p : X → Bool) (xs : List X) → position p xs ≡ None → (i : ℕ) (d : X)
    → i < length xs → p (get_or xs i d) ≡ false
none_passes p [] none i d within = absurd (omega (arith, within))
none_passes p (x ∷ xs) none i d within =
    by_front (λ rest j less. none_passes p xs rest j d less) (p x) refl
  where
    by_later : (o : Option ℕ) → position p xs ≡ o → option_map (λ (k : ℕ). 1 + k) o ≡ None
        → position p xs ≡ None
    by_later None e at = e
    by_later (Some j) e at = absurd (cc)

    at_place : (position p xs ≡ None → (j : ℕ) → j < length xs → p (get_or xs j d) ≡ false)
        → (i : ℕ) → i < length (x ∷ xs) → p x ≡ false → p (get_or (x ∷ xs) i d) ≡ false
    at_place rest zero within off = off
    at_place rest (suc j) within off =
        rest (by_later (position p xs) refl (sym (position_later p x xs off) ∙ none)) j
        (omega (arith, within))

    by_front : (position p xs ≡ None → (j : ℕ) → j < length xs → p (get_or xs j d) ≡ false)
        → (b : Bool) → p x ≡ b → p (get_or (x ∷ xs) i d) ≡ false
    by_front rest true e =
        absurd (let both : Some 0 ≡ None = sym (position_at_front p x xs e) ∙ none in cc)
    by_front rest false e = at_place rest i within e
