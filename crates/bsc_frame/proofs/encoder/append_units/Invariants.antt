-- The loop invariant of `append_units`.
use Rattle.std.proofs.Common.{◌≡◌, ◌++◌, drop}
use Rattle.bsc_frame.specs.Units.{units_wire}
use Rattle.bsc_frame.proofs.encoder.append_units.Given as goal

abbrev pub invariant-loop-place : goal.invariant-loop-place
invariant-loop-place l =
    l.wire.items ++ units_wire (drop l.place l.text.units) l.text.end ≡ l.initial.wire.items
    ++ units_wire l.text.units l.text.end
