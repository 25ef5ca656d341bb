-- The lines so far are written.
use Rattle.std.proofs.Common.{take}
use Rattle.std.specs.Io.KnownBytes.{Appends}
use Rattle.std.specs.List.{flat_map}
use Rattle.bsc_chart.specs.PictureRows.{rows_in}
use Rattle.bsc_chart.specs.Tables.{kind_if}
use Rattle.bsc_chart.proofs.summary.kinds.put_kinds_of.Given as goal

abbrev pub invariant-kinds : goal.invariant-kinds
invariant-kinds g l =
    Appends (g.W.Write.contents l.initial.out) (g.W.Write.contents l.out)
    (flat_map (λ kind. kind_if (rows_in l.rows) kind.now) (take l.kind-index l.kinds))
