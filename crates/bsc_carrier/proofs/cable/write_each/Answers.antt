-- The loop of `write_each` writes at every end.
use Rattle.std.proofs.Common.{arith}
use Rattle.bsc_carrier.proofs.Places.{AllZip-from_places}
use Rattle.bsc_carrier.proofs.cable.write_each.Goals as goal

pub returns-clause-wrote : goal.returns-clause-wrote
returns-clause-wrote g c =
    AllZip-from_places _ _ _ c.ends.auto.ends (λ i d below. c.ends.invariant.0 i d (omega arith))
