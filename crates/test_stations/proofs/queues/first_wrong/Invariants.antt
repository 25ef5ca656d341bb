-- The format of the queue has not changed.
use Rattle.std.proofs.Common.{◌≡◌}
use Rattle.test_stations.proofs.queues.first_wrong.Given as goal

abbrev pub invariant-loop-place : goal.invariant-loop-place
invariant-loop-place g l = l.queue.format ≡ l.fn.queue.format
