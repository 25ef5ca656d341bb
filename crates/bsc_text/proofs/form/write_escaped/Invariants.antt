-- The characters so far are written.
use Rattle.std.proofs.Common.{take}
use Rattle.std.specs.Io.KnownBytes.{Appends}
use Rattle.bsc_text.specs.Forms.{escaped}
use Rattle.bsc_text.proofs.form.write_escaped.Given as goal

abbrev pub invariant-chars : goal.invariant-chars
invariant-chars g l =
    Appends (g.W.Write.contents l.initial.out) (g.W.Write.contents l.out)
    (escaped (take l.code-index l.chars))
