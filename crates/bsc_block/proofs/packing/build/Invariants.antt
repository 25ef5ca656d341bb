-- The loop invariant of `build`.
use Rattle.std.proofs.Common.{◌≡◌, length, map, take, drop}
use Rattle.std.specs.List.{AllByRecursion}
use Rattle.bsc_frame.specs.Texts.{IsUnit}
use Rattle.bsc_frame.specs.Units.{text_unit}
use Rattle.bsc_block.specs.Blocks.{unit_of}
use Rattle.bsc_block.proofs.packing.build.Given as goal
use Rattle.bsc_frame.specs.declared.limits.TheConstants.{MAX_UNITS}

abbrev pub invariant-loop-place : goal.invariant-loop-place
invariant-loop-place g l = record {
  long : length l.units ≡ MAX_UNITS;
  units : map text_unit (take l.place l.units)
      ≡ map (unit_of l.format.full) (take l.place (drop l.from l.records.items));
  each : AllByRecursion IsUnit (map text_unit (take l.place l.units));
}
