-- The format of the queue has not changed.
use Rattle.std.proofs.Common.{◌≡◌}
use Rattle.test_stations.proofs.growths.are_delivered.Given as goal

abbrev pub invariant-loop : goal.invariant-loop
invariant-loop l = l.queue.format ≡ l.fn.queue.format
