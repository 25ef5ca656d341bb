-- What all terminals hear alike holds of each of them if it holds of one.
use Rattle.std.proofs.Common.{◌↔◌, ℕ, ◌<◌, Bool, IsTrue}
use Rattle.bsc_line_model.specs.Trust.{EachOf}

pub same_test_for_each : (b : Bool) (P : Type 0) (n : ℕ) → 0 < n → (IsTrue b ↔ P)
    → (IsTrue b ↔ EachOf n (λ t. P))
same_test_for_each b P n some h = (λ yes t less. h.0 yes, λ each. h.1 (each 0 some))
