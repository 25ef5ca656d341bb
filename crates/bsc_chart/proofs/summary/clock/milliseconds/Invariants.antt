-- The digits so far are read.
use Rattle.std.proofs.Common.{◌≡◌, ◌≤◌, take}
use Rattle.bsc_chart.specs.Clocks.{milliseconds_of}
use Rattle.bsc_chart.proofs.summary.clock.milliseconds.Given as goal

abbrev pub invariant-digits : goal.invariant-digits
invariant-digits l =
    (l.number ≡ milliseconds_of (take l.digit-index l.time)) × (l.number ≤ 100000000000)
