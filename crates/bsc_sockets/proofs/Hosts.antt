-- One more address of a host is taken.
use Rattle.std.proofs.Common.{◌≡◌, ℕ, suc, List, [], ◌∷◌, ◌++◌, take, ap, refl, ◌∙◌, append_assoc}

pub one_more_host : {X : Type 0} (all before after new whole : List X) (x : X) (n m : ℕ)
    → all ++ take n before ≡ whole → before ≡ x ∷ after → suc m ≡ n → new ≡ all ++ x ∷ []
    → new ++ take m after ≡ whole
one_more_host all before after new whole x n m so_far begins count is =
    let next : x ∷ take m after ≡ take n before = rw (begins, ← count) refl in
    rw is (append_assoc all (x ∷ []) (take m after) ∙ ap (λ rest. all ++ rest) next ∙ so_far)
