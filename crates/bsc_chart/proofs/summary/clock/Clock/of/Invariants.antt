-- The rows so far are in the clock.
use Rattle.std.proofs.Common.{◌≡◌, ◌≤◌, ◌*◌, take}
use Rattle.bsc_chart.specs.PictureRows.{rows_in}
use Rattle.bsc_chart.specs.Clocks.{clock_in, clock_of}
use Rattle.bsc_chart.proofs.summary.clock.Clock.of.Given as goal

abbrev pub invariant-rows : goal.invariant-rows
invariant-rows g l =
    (clock_in l.clock ≡ clock_of (rows_in (take l.row-index l.rows)))
    × (l.clock.spoken ≤ 100000000000 * l.row-index)
    × (l.clock.silent ≤ 100000000000 * l.row-index)
