-- The terminal still has two selection addresses, and records of up to 80 characters.
use Rattle.std.proofs.Common.{◌≡◌, length}
use Rattle.test_stations.proofs.tributary.go.Given as goal

abbrev pub invariant-loop-word : goal.invariant-loop-word
invariant-loop-word g l =
    record {
      selects : length l.tributary.terminal.selects ≡ 2;
      full : l.tributary.queue.format.full ≡ 80;
    }
