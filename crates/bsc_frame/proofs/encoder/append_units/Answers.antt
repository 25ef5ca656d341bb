-- The loop of `append_units` has room for each unit and appends all of them.
use Rattle.bsc_frame.specs.Units.{text_unit}
use Rattle.bsc_frame.proofs.WireSteps.{wire_room, wire_next, wire_short}
use Rattle.bsc_frame.proofs.encoder.append_units.Goals as goal

pub append_unit-requires-clause-room : goal.append_unit-requires-clause-room
append_unit-requires-clause-room c = rw c.ending_at.ensures.value
    (wire_room c.loop-place.wire.items c.args.wire.now.items c.args.text.now.units
    c.loop-place.place (text_unit c.unit.result) c.args.text.now.end
    c.unit.ensures c.requires.room c.count-place-end.ensures.text.most
    c.count-place-end.ensures.text.each c.loop-place.invariant)

pub loop-place-preserved : goal.loop-place-preserved
loop-place-preserved c = rw (c.append_unit.ensures, c.ending_at.ensures.value)
    (wire_next c.loop-place.wire.items c.args.wire.now.items c.args.text.now.units
    c.loop-place.place (text_unit c.unit.result) c.args.text.now.end c.unit.ensures
    c.loop-place.invariant)

pub returns-clause-short : goal.returns-clause-short
returns-clause-short c =
    wire_short c.loop-place.wire.items c.args.wire.now.items c.args.text.now.units
    c.loop-place.place c.args.text.now.end
    c.requires.room c.count-place-end.ensures.text.most c.count-place-end.ensures.text.each
    c.loop-place.invariant
