-- The loop of `unpack` keeps the characters of each unit that holds a record.
use Rattle.std.proofs.Common.{arith, sym, ◌∙◌}
use Rattle.std.proofs.lemmas.List.{map_push, length_push}
use Rattle.bsc_frame.specs.Units.{text_unit}
use Rattle.bsc_frame.proofs.Elements.{all_append}
use Rattle.bsc_block.proofs.HeldRecords.{records_in_held, records_in_empty, unit_is_record}
use Rattle.bsc_block.proofs.block.unpack.Goals as goal
use Rattle.bsc_block.proofs.block.unpack.Goals.{then-is_record, else-is_record}

pub loop-place-preserved : goal.loop-place-preserved
loop-place-preserved c =
    elim c.if-is_record.branch [
      | then-is_record w ↦ rw (w.records-is, w.push.ensures.items) (record {
        few =
            omega (
              arith,
              length_push c.loop-place.records.items c.unit-unit.result.chars,
              c.loop-place.invariant.few,
            );
        records =
            rw (
              map_push (λ r. r.now) c.loop-place.records.items c.unit-unit.result.chars,
              c.loop-place.invariant.records,
            )
            (sym (records_in_held c.args.text.now.units c.loop-place.place
            (text_unit c.unit-unit.result) c.unit-unit.ensures
            (sym c.is_record.ensures ∙ w.if-is_record.true)));
        each = all_append _ _ _ c.loop-place.invariant.each (
          unit_is_record c.args.text.now.units c.loop-place.place (text_unit c.unit-unit.result)
              c.count-place-end.ensures.text.each c.unit-unit.ensures,
          tt,
        );
      })
      | else-is_record w ↦ rw w.records-is (record {
        few = omega (arith, c.loop-place.invariant.few);
        records = c.loop-place.invariant.records
            ∙ sym (records_in_empty c.args.text.now.units c.loop-place.place
            (text_unit c.unit-unit.result) c.unit-unit.ensures
            (sym c.is_record.ensures ∙ w.if-is_record.false));
        each = c.loop-place.invariant.each;
      })
    ]
