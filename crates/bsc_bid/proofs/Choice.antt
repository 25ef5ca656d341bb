-- What holds of both values holds of the chosen one.
use Rattle.std.proofs.Common.{Bool, true, false, if◌then◌else◌}

pub either_branch : {X : Type 0} (P : X → Type 0) (b : Bool) (x y : X) → P x → P y
    → P (if b then x else y)
either_branch P true x y p q = p
either_branch P false x y p q = q
