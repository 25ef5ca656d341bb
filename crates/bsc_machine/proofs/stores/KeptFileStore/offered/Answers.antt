-- The store in a file gives what its table gives.
use Rattle.std.proofs.Common.{to_z-of_z}
use Rattle.bsc_machine.proofs.stores.KeptFileStore.offered.Goals as goal

pub returns-clause-finds : goal.returns-clause-finds
returns-clause-finds c = rw (to_z-of_z c.ranges.mark) at c.offered.ensures.finds
