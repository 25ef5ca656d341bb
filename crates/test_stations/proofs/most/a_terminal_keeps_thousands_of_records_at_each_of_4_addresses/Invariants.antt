-- The terminal keeps its four selection addresses.
use Rattle.std.proofs.Common.{◌≡◌, length}
use Rattle.test_stations.proofs.most.a_terminal_keeps_thousands_of_records_at_each_of_4_addresses.Given as goal

abbrev pub invariant-loop-select : goal.invariant-loop-select
invariant-loop-select g l = length l.tributary.value.terminal.selects ≡ 4
