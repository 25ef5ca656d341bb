-- The codes so far are written.
use Rattle.std.proofs.Common.{take}
use Rattle.std.specs.Fmt.{HasWritten, IsPlainFormatter}
use Rattle.bsc_text.specs.Lines.{in_lines}
use Rattle.bsc_text.proofs.escaped.LinesDisplay.fmt.Given as goal

abbrev pub invariant-codes : goal.invariant-codes
invariant-codes g l =
    IsPlainFormatter l.initial.f
    → HasWritten g.W.Write.write_str_gives l.initial.f (in_lines (take l.code-index l.code-items)) l.f
