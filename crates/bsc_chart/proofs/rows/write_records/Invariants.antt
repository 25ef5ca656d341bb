-- The records so far are written.
use Rattle.std.proofs.Common.{take}
use Rattle.std.specs.List.{flat_map}
use Rattle.std.specs.Io.KnownBytes.{Appends}
use Rattle.bsc_chart.specs.Rows.{unit_note}
use Rattle.bsc_chart.proofs.rows.write_records.Given as goal

abbrev pub invariant-units : goal.invariant-units
invariant-units g l =
    Appends (g.W.Write.contents l.initial.out) (g.W.Write.contents l.out)
    (flat_map unit_note (take l.place l.text.units))
