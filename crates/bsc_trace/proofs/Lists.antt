-- The first index at which a test passes.
use Rattle.std.proofs.Common.{◌≡◌, List, [], ◌∷◌, ◌++◌, Bool, true, false, Some, None, length, refl}
use Rattle.std.proofs.Common.{sym, ap, ◌∙◌, arith, length-append}
use Rattle.std.specs.List.{AllByRecursion, position, position_or_len}
use Rattle.std.proofs.lemmas.Bool.{cond_above, cond_below}

module _ {X : Type 0} (p : X → Bool) where
  -- no element passes
  abbrev pub NonePasses : List X → Type 0
  NonePasses = AllByRecursion (λ x. p x ≡ false)

  pub NonePasses-more : (xs : List X) (y : X) → NonePasses xs → p y ≡ false
      → NonePasses (xs ++ y ∷ [])
  NonePasses-more [] y h e = (e, tt)
  NonePasses-more (x ∷ xs) y h e = (h.0, NonePasses-more xs y h.1 e)

  position_or_len-none : (xs : List X) → NonePasses xs → position_or_len p xs ≡ length xs
  position_or_len-none [] h = refl
  position_or_len-none (x ∷ xs) h = let e = position_or_len-none xs h.1 in rw h.0 (omega (arith, e))

  position_or_len-append : (xs : List X) (y : X) (ys : List X) → NonePasses xs → p y ≡ true
      → position_or_len p (xs ++ y ∷ ys) ≡ length xs
  position_or_len-append [] y ys h e = rw e refl
  position_or_len-append (x ∷ xs) y ys h e = let k = position_or_len-append xs y ys h.1 e in
      rw h.0 (omega (arith, k))

  pub position_none : (xs : List X) → NonePasses xs → position p xs ≡ None
  position_none xs h =
      let e = position_or_len-none xs h in
      sym (cond_above (position_or_len p xs) (length xs) (Some (position_or_len p xs)) None None
      (omega (arith, e)) refl)

  pub position-append : (xs : List X) (y : X) (ys : List X) → NonePasses xs → p y ≡ true
      → position p (xs ++ y ∷ ys) ≡ Some (length xs)
  position-append xs y ys h e =
      let all = xs ++ y ∷ ys in
      let k = position_or_len-append xs y ys h e in
      let n = length-append xs (y ∷ ys) in
      sym (cond_below (position_or_len p all) (length all) (Some (position_or_len p all)) None
      (omega (arith, k, n))) ∙ ap Some k
