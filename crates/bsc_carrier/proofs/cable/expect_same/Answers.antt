-- The loop of `expect_same` reads at every end.
use Rattle.std.proofs.Common.{arith}
use Rattle.bsc_carrier.proofs.Places.{AllZip-from_places}
use Rattle.bsc_carrier.proofs.cable.expect_same.Goals as goal

pub returns-clause-read : goal.returns-clause-read
returns-clause-read g c =
    AllZip-from_places _ _ _ c.ends.auto.ends (λ i d below. c.ends.invariant.0 i d (omega arith))
