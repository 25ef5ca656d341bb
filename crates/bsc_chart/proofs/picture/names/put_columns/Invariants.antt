-- The columns so far are written.
use Rattle.std.specs.Io.KnownBytes.{Appends}
use Rattle.bsc_chart.specs.Pictures.{columns_markup}
use Rattle.bsc_chart.proofs.picture.names.put_columns.Given as goal

abbrev pub invariant-columns : goal.invariant-columns
invariant-columns g l =
    Appends (g.W.Write.contents l.initial.out) (g.W.Write.contents l.out)
    (columns_markup l.bottom l.column)
