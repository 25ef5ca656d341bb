-- The full length of the queue's records is still 144.
use Rattle.std.proofs.Common.{◌≡◌}
use Rattle.test_stations.proofs.growths.are_passed.Given as goal

abbrev pub invariant-loop : goal.invariant-loop
invariant-loop l = l.queue.format.full ≡ 144
