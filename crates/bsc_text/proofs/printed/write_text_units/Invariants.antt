-- The lines for the units so far are written.
use Rattle.std.proofs.Common.{take}
use Rattle.std.specs.List.{flat_map}
use Rattle.std.specs.Io.KnownBytes.{Appends}
use Rattle.bsc_text.specs.Names.{unit_line}
use Rattle.bsc_text.proofs.printed.write_text_units.Given as goal

abbrev pub invariant-units : goal.invariant-units
invariant-units g l =
    Appends (g.W.Write.contents l.initial.out) (g.W.Write.contents l.out)
    (flat_map unit_line (take l.place l.text.units))
