-- The codes so far are written.
use Rattle.std.proofs.Common.{take}
use Rattle.std.specs.Fmt.{HasWritten, IsPlainFormatter}
use Rattle.bsc_chart.specs.Escapes.{escaped}
use Rattle.bsc_chart.proofs.picture.escapes.CharsDisplay.fmt.Given as goal

abbrev pub invariant-codes : goal.invariant-codes
invariant-codes g l =
    IsPlainFormatter l.initial.f
    → HasWritten g.W.Write.write_str_gives l.initial.f (escaped (take l.code-index l.code-items)) l.f
