-- The loop invariant of `fill`.
use Rattle.std.proofs.Common.{◌≡◌, map, take}
use Rattle.bsc_frame.specs.Units.{text_unit}
use Rattle.bsc_frame.specs.TextBuffers.{buffer_units, IsTextBuffer}
use Rattle.bsc_frame.proofs.text_buffer.TextBuffer.fill.Given as goal

abbrev pub invariant-loop-unit : goal.invariant-loop-unit
invariant-loop-unit l = record {
  buffer : IsTextBuffer l.self;
  units : buffer_units l.self ≡ map text_unit (take l.unit-index l.units);
}
