-- The columns so far are written.
use Rattle.std.specs.Io.KnownBytes.{Appends}
use Rattle.bsc_chart.specs.PictureRows.{rows_in}
use Rattle.bsc_text.specs.Channels.{each_below}
use Rattle.bsc_chart.specs.Tables.{column_line}
use Rattle.bsc_chart.proofs.summary.stations.put_columns.Given as goal

abbrev pub invariant-columns : goal.invariant-columns
invariant-columns g l =
    Appends (g.W.Write.contents l.initial.out) (g.W.Write.contents l.out)
    (each_below (column_line (rows_in l.picture.names.now) (rows_in l.picture.rows.now)) l.column)
