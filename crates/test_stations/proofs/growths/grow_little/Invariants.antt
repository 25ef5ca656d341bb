-- The full length of the queue's records is still 144.
use Rattle.std.proofs.Common.{◌≡◌}
use Rattle.test_stations.proofs.growths.grow_little.Given as goal

abbrev pub invariant-loop-number : goal.invariant-loop-number
invariant-loop-number g l = l.queue.format.full ≡ 144
