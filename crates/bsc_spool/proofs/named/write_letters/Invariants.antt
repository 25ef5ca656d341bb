-- The characters of the codes so far are written.
use Rattle.std.proofs.Common.{take}
use Rattle.std.specs.Fmt.{HasWritten, IsPlainFormatter}
use Rattle.std.specs.List.{flat_map}
use Rattle.bsc_spool.specs.Names.{letter}
use Rattle.bsc_spool.proofs.named.write_letters.Given as goal

abbrev pub invariant-codes : goal.invariant-codes
invariant-codes g l =
    IsPlainFormatter l.initial.f
    → HasWritten g.W.Write.write_str_gives l.initial.f
    (flat_map letter (take l.code-index l.fn.codes)) l.f
