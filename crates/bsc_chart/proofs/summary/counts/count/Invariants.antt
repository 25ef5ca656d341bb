-- The rows so far are counted.
use Rattle.std.proofs.Common.{◌≡◌, ◌≤◌, take}
use Rattle.bsc_chart.specs.PictureRows.{rows_in}
use Rattle.bsc_chart.specs.Counts.{count_of, wanted_in}
use Rattle.bsc_chart.proofs.summary.counts.count.Given as goal

abbrev pub invariant-rows : goal.invariant-rows
invariant-rows g l =
    (l.count ≡ count_of (wanted_in l.wanted) (rows_in (take l.row-index l.rows)))
    × (l.count ≤ l.row-index)
