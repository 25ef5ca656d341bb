-- The format of the queue has not changed.
use Rattle.std.proofs.Common.{◌≡◌}
use Rattle.test_stations.proofs.growths.are_offered.Given as goal

abbrev pub invariant-loop : goal.invariant-loop
invariant-loop g l = l.queue.format ≡ l.fn.queue.format
