-- A list that is printed element by element.
use Rattle.std.proofs.Common.{◌≡◌, ◌<◌, arith, get_or, length, refl, ℕ, ◌+◌, List, [], ◌∷◌, ◌++◌, Some, take, sym, ap, ◌∙◌, zero, suc}
use Rattle.std.proofs.Common.{add-one, append-nil, append_assoc}
use Rattle.std.specs.List.{flat_map, slice_get}
use Rattle.std.proofs.lemmas.Option.{same_Some}

flat_map_take_suc : {X Y : Type 0} (f : X → List Y) (xs : List X) (i : ℕ) (x : X) → slice_get xs i
    ≡ Some x → flat_map f (take (suc i) xs) ≡ flat_map f (take i xs) ++ f x
flat_map_take_suc f [] i x e = cc
flat_map_take_suc f (y ∷ ys) zero x e = append-nil (f y) ∙ ap f (same_Some y x e)
flat_map_take_suc f (y ∷ ys) (suc i) x e = ap (λ l. f y ++ l) (flat_map_take_suc f ys i x e)
    ∙ sym (append_assoc (f y) (flat_map f (take i ys)) (f x))

-- one more element
pub flat_map_take_more : {X Y : Type 0} (f : X → List Y) (xs : List X) (i : ℕ) (x : X)
    → slice_get xs i ≡ Some x → flat_map f (take (i + 1) xs) ≡ flat_map f (take i xs) ++ f x
flat_map_take_more f xs i x e = rw add-one (flat_map_take_suc f xs i x e)

-- the elements before one, that one, and others
pub flat_map_seam : {X Y : Type 0} (f : X → List Y) (xs : List X) (i : ℕ) (x : X)
    → slice_get xs i ≡ Some x
    → (rest : List Y) × (flat_map f xs ≡ flat_map f (take i xs) ++ f x ++ rest)
flat_map_seam f [] i x e = cc
flat_map_seam f (y ∷ ys) zero x e =
    (flat_map f ys, ap (λ z. f z ++ flat_map f ys) (same_Some y x e))
flat_map_seam f (y ∷ ys) (suc i) x e =
    let more = flat_map_seam f ys i x e in (
      more.0,
      ap (λ l. f y ++ l) more.1
          ∙ sym (append_assoc (f y) (flat_map f (take i ys) ++ f x) more.0)
          ∙ ap (λ l. l ++ more.0) (sym (append_assoc (f y) (flat_map f (take i ys)) (f x))),
    )

no_less : (i : ℕ) → i < 0 → ⊥
no_less i below = omega (arith, below)

-- the same for the element at a place
pub flat_map_seam_at : {X Y : Type 0} (f : X → List Y) (xs : List X) (i : ℕ) (d : X)
    → i < length xs
    → (rest : List Y) × (flat_map f xs ≡ flat_map f (take i xs) ++ f (get_or xs i d) ++ rest)
flat_map_seam_at f [] i d below = absurd (no_less i below)
flat_map_seam_at f (y ∷ ys) zero d below = (flat_map f ys, refl)
flat_map_seam_at f (y ∷ ys) (suc i) d below =
    let more = flat_map_seam_at f ys i d (omega (arith, below)) in (
      more.0,
      ap (λ l. f y ++ l) more.1
          ∙ sym (append_assoc (f y) (flat_map f (take i ys) ++ f (get_or ys i d)) more.0)
          ∙ ap (λ l. l ++ more.0)
          (sym (append_assoc (f y) (flat_map f (take i ys)) (f (get_or ys i d)))),
    )
