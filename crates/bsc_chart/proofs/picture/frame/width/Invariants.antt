-- No row goes further than the longest text.
use Rattle.std.proofs.Common.{◌≤◌}
use Rattle.bsc_chart.proofs.picture.frame.width.Given as goal

abbrev pub invariant-rows : goal.invariant-rows
invariant-rows g l = l.reach ≤ 40000
