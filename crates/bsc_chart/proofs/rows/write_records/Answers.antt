-- One more record is written after a bar.
use Rattle.std.proofs.KnownBytes.{Appends-trans}
use Rattle.bsc_frame.specs.Units.{text_unit}
use Rattle.bsc_text.proofs.Lists.{flat_map_take_more}
use Rattle.bsc_chart.specs.Rows.{unit_note}
use Rattle.bsc_chart.proofs.rows.write_records.Goals as goal

pub units-preserved : goal.units-preserved
units-preserved g c =
    rw (flat_map_take_more unit_note c.args.text.now.units c.units.place (text_unit c.unit.result)
    c.unit.ensures)
    (Appends-trans _ _ _ _ _ c.units.invariant
    (Appends-trans _ _ _ _ _ c.in_ok-put.ensures.ok c.in_ok-put-2.ensures.ok))
