-- The cells so far are written.
use Rattle.std.proofs.Common.{take}
use Rattle.std.specs.Io.KnownBytes.{Appends}
use Rattle.std.specs.List.{flat_map}
use Rattle.bsc_chart.specs.Cells.{drawn}
use Rattle.bsc_chart.proofs.summary.cells.put_cells.Given as goal

abbrev pub invariant-cells : goal.invariant-cells
invariant-cells g l =
    Appends (g.W.Write.contents l.initial.out) (g.W.Write.contents l.out)
    (flat_map drawn (take l.cell-index l.cells))
