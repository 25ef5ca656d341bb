-- The loop of `build` writes the unit of each record.
use Rattle.std.proofs.Common.{◌≡◌, ◌+◌, ◌++◌, [], ◌∷◌, List, ℕ, arith, map, take, drop, set, refl}
use Rattle.std.proofs.lemmas.List.{take_more, take_more_set, map_push, length-set}
use Rattle.bsc_frame.specs.Texts.{IsUnit}
use Rattle.bsc_frame.specs.Units.{text_unit}
use Rattle.bsc_block.specs.Blocks.{unit_of}
use Rattle.bsc_frame.proofs.Elements.{all_append}
use Rattle.bsc_block.proofs.Waiting.{waiting_at, waiting_within}
use Rattle.bsc_block.proofs.packing.build.Goals as goal

pub loop-place-preserved : goal.loop-place-preserved
loop-place-preserved g c =
    let rs : List (List ℕ) = c.args.records.now.items in
    let built : map text_unit (take (c.loop-place.place + 1)
    (set c.loop-place.units c.loop-place.place c.unit.result))
    ≡ map text_unit (take c.loop-place.place c.loop-place.units) ++ text_unit c.unit.result ∷ [] =
    rw (
      take_more_set c.loop-place.units c.loop-place.place c.unit.result (omega arith),
      map_push text_unit (take c.loop-place.place c.loop-place.units) c.unit.result,
    ) refl in
    record {
      long = rw length-set c.loop-place.invariant.long;
      units =
          rw (
            built,
            c.loop-place.invariant.units,
            c.unit.ensures.value,
            take_more (drop c.args.from rs) c.loop-place.place c.chars.result.now
                (waiting_within rs c.args.from c.loop-place.place c.chars.result.now
                c.chars.ensures.chars),
            waiting_at rs c.args.from c.loop-place.place c.chars.result.now c.chars.result.now
                c.chars.ensures.chars,
            map_push (unit_of c.args.format.full)
                (take c.loop-place.place (drop c.args.from rs)),
          ) refl;
      each =
          rw (built) (all_append IsUnit _ _ c.loop-place.invariant.each (c.unit.ensures.unit, tt));
    }
