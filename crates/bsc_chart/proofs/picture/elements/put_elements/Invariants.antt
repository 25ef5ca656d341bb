-- The elements so far are written.
use Rattle.std.proofs.Common.{take}
use Rattle.std.specs.Io.KnownBytes.{Appends}
use Rattle.std.specs.List.{flat_map}
use Rattle.bsc_chart.specs.Elements.{drawn}
use Rattle.bsc_chart.proofs.picture.elements.put_elements.Given as goal

abbrev pub invariant-elements : goal.invariant-elements
invariant-elements g l =
    Appends (g.W.Write.contents l.initial.out) (g.W.Write.contents l.out)
    (flat_map drawn (take l.element-index l.elements))
