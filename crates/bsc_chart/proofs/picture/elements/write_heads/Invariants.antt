-- The heads so far are written.
use Rattle.std.specs.Fmt.{HasWritten, IsPlainFormatter}
use Rattle.bsc_chart.specs.Elements.{heads_markup}
use Rattle.bsc_chart.proofs.picture.elements.write_heads.Given as goal

abbrev pub invariant-columns : goal.invariant-columns
invariant-columns g l =
    IsPlainFormatter l.initial.f
    → HasWritten g.W.Write.write_str_gives l.initial.f (heads_markup l.name l.column) l.f
