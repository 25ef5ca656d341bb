-- A list that grows by what each element of another adds.
use Rattle.std.proofs.Common.{◌≡◌, ℕ, ◌+◌, List, [], ◌∷◌, ◌++◌, Some, take, map, sym, ap, ◌∙◌}
use Rattle.std.proofs.Common.{zero, suc, add-one, append_assoc}
use Rattle.std.specs.List.{slice_get}
use Rattle.std.proofs.lemmas.Option.{same_Some}

map_take_suc : {X Y : Type 0} (f : X → Y) (xs : List X) (i : ℕ) (x : X) → slice_get xs i ≡ Some x
    → map f (take (suc i) xs) ≡ map f (take i xs) ++ f x ∷ []
map_take_suc f [] i x e = cc
map_take_suc f (y ∷ ys) zero x e = ap (λ z. f z ∷ []) (same_Some y x e)
map_take_suc f (y ∷ ys) (suc i) x e = ap (λ l. f y ∷ l) (map_take_suc f ys i x e)

-- one more element
pub map_take_more : {X Y : Type 0} (f : X → Y) (xs : List X) (i : ℕ) (x : X)
    → slice_get xs i ≡ Some x → map f (take (i + 1) xs) ≡ map f (take i xs) ++ f x ∷ []
map_take_more f xs i x e = rw add-one (map_take_suc f xs i x e)

-- what one more element adds follows what those before it added
pub added_more : {X : Type 0} (first mid new before more all : List X) → mid ≡ first ++ before
    → new ≡ mid ++ more → all ≡ before ++ more → new ≡ first ++ all
added_more first mid new before more all so_far adds is =
    adds ∙ ap (λ l. l ++ more) so_far ∙ append_assoc first before more
    ∙ ap (λ l. first ++ l) (sym is)
