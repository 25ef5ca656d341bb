-- The addresses so far are written.
use Rattle.std.proofs.Common.{take}
use Rattle.std.specs.Io.KnownBytes.{Appends}
use Rattle.std.specs.List.{flat_map}
use Rattle.bsc_chart.specs.Pictures.{name_markup}
use Rattle.bsc_chart.specs.PictureRows.{rows_in}
use Rattle.bsc_chart.proofs.picture.names.put_names.Given as goal

abbrev pub invariant-names : goal.invariant-names
invariant-names g l =
    Appends (g.W.Write.contents l.initial.out) (g.W.Write.contents l.out)
    (flat_map name_markup (rows_in (take l.name-index l.names)))
