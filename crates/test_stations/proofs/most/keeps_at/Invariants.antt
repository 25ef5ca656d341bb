-- The terminal keeps its four selection addresses.
use Rattle.std.proofs.Common.{◌≡◌, length}
use Rattle.test_stations.proofs.most.keeps_at.Given as goal

abbrev pub invariant-loop-number : goal.invariant-loop-number
invariant-loop-number g l = length l.tributary.terminal.selects ≡ 4
