-- The rows so far are written.
use Rattle.std.proofs.Common.{◌≡◌, ◌+◌, ◌*◌, take}
use Rattle.std.specs.Io.KnownBytes.{Appends}
use Rattle.bsc_chart.specs.Pictures.{rows_from}
use Rattle.bsc_chart.specs.PictureRows.{rows_in}
use Rattle.bsc_chart.proofs.picture.picture.put_rows.Given as goal

abbrev pub invariant-rows : goal.invariant-rows
invariant-rows g l =
    Appends (g.W.Write.contents l.initial.out) (g.W.Write.contents l.out)
    (rows_from l.columns 96 (rows_in (take l.row-index l.rows)))
    × (l.y ≡ 96 + 24 * l.row-index)
