-- Lists around a place, and two ways to split one list.
use Rattle.std.proofs.Common.{◌≡◌, ◌⊎◌, inl, inr, ℕ, zero, suc, ◌<◌, refl, sym, ap, ◌∙◌, arith}
use Rattle.std.proofs.Common.{List, [], ◌∷◌}
use Rattle.std.proofs.Common.{◌++◌, length, get_or, set}
use Rattle.std.specs.List.{AllByRecursion}

-- a list around a place
pub record Around (xs : List ℕ) (place : ℕ) : Type 0 where
  pub before : List ℕ
  pub here : ℕ
  pub after : List ℕ
  pub whole : xs ≡ before ++ here ∷ after
  pub long : length before ≡ place
  pub is_here : get_or xs place 0 ≡ here
  pub changed : (o : ℕ) → set xs place o ≡ before ++ o ∷ after

-- a place in a list splits it
pub split_at_place : (xs : List ℕ) (place : ℕ) → place < length xs → Around xs place
split_at_place [] place l = absurd (omega arith)
split_at_place (x ∷ xs) zero l =
    record {
      before = [];
      here = x;
      after = xs;
      whole = refl;
      long = refl;
      is_here = refl;
      changed =
          λ o. refl;
    }
split_at_place (x ∷ xs) (suc place) l =
    let r = split_at_place xs place (omega arith) in
    record {
      before = x ∷ r.before;
      here = r.here;
      after = r.after;
      whole = ap (λ z. x ∷ z) r.whole;
      long = ap suc r.long;
      is_here = r.is_here;
      changed = λ o. ap (λ z. x ∷ z) (r.changed o);
    }

-- the octet after a front stands in the first of two lists
pub record InFirst (xs ys front : List ℕ) (o : ℕ) (back : List ℕ) : Type 0 where
  pub more : List ℕ
  pub first : xs ≡ front ++ o ∷ more
  pub rest : back ≡ more ++ ys

-- the octet stands in the second of two lists
pub record InSecond (xs ys front : List ℕ) (o : ℕ) (back : List ℕ) : Type 0 where
  pub more : List ℕ
  pub first : front ≡ xs ++ more
  pub rest : ys ≡ more ++ o ∷ back

-- an octet in two lists stands in the first or in the second
pub in_first_or_second_list : (xs ys front : List ℕ) (o : ℕ) (back : List ℕ) → xs ++ ys ≡ front ++ o ∷ back
    → InFirst xs ys front o back ⊎ InSecond xs ys front o back
in_first_or_second_list [] ys front o back e = inr (record { more = front; first = refl; rest = e })
in_first_or_second_list (x ∷ xs) ys [] o back e =
    let head : x ≡ o = cc in
    let tail : xs ++ ys ≡ back = cc in
    inl (record { more = xs; first = ap (λ z. z ∷ xs) head; rest = sym tail })
in_first_or_second_list (x ∷ xs) ys (y ∷ front) o back e =
    let head : x ≡ y = cc in
    let tail : xs ++ ys ≡ front ++ o ∷ back = cc in
    elim (in_first_or_second_list xs ys front o back tail) [
      | inl r ↦ inl (record {
        more = r.more;
        first = ap (λ z. z ∷ xs) head
            ∙ ap (λ z. y ∷ z) r.first;
        rest = r.rest;
      })
      | inr r ↦ inr (record {
        more = r.more;
        first = ap (λ z. z ∷ front) (sym head)
            ∙ ap (λ z. x ∷ z) r.first;
        rest = r.rest;
      })
    ]

-- what holds of all elements of a list holds of the one at the place
pub all_here : (P : ℕ → Type 0) (front : List ℕ) (o : ℕ) (back : List ℕ)
    → AllByRecursion P (front ++ o ∷ back) → P o
all_here P [] o back h = h.0
all_here P (x ∷ front) o back h = all_here P front o back h.1

-- what holds of all elements of two lists holds of those of the second
pub all_after : (P : ℕ → Type 0) (front back : List ℕ) → AllByRecursion P (front ++ back)
    → AllByRecursion P back
all_after P [] back h = h
all_after P (x ∷ front) back h = all_after P front back h.1
