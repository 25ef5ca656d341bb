-- The place that is served is the last one afterwards.
use Rattle.std.proofs.Common.{◌≡◌, ℕ, List, [], ◌∷◌, ◌++◌, Option, None, Some, unwrap_or}
use Rattle.std.proofs.Common.{sym, ◌∙◌, ap}
use Rattle.bsc_sockets.specs.Ready.{IsServed, WasServed}

pub served_is_last : (old after : List ℕ) (place : ℕ) (served : Option ℕ) → served ≡ Some place
    → IsServed old served after → WasServed after place
served_is_last [] after place served is (none, same) =
    let clash : None ≡ Some place = sym none ∙ is in absurd cc
served_is_last (first ∷ rest) after place served is (some, same) =
    let it : first ≡ place = ap (λ (o : Option ℕ). unwrap_or o 0) (sym some ∙ is) in
    record { others = rest; is = same ∙ ap (λ (p : ℕ). rest ++ p ∷ []) it }
