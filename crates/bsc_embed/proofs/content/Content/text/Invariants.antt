-- The loop invariant of `text`: the units read so far.
use Rattle.std.proofs.Common.{◌≡◌, take, map, length, Some}
use Rattle.bsc_frame.specs.Units.{text_unit}
use Rattle.bsc_embed.specs.Contents.{units_in}
use Rattle.bsc_embed.proofs.content.Content.text.Given as goal
use Rattle.bsc_frame.specs.declared.limits.TheConstants.{MAX_UNITS}

abbrev pub invariant-loop-place : goal.invariant-loop-place
invariant-loop-place l = record {
  long : length l.units ≡ MAX_UNITS;
  units : units_in (take l.place l.self.units) ≡ Some (map text_unit (take l.place l.units));
}
