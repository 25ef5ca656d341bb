-- The loop invariant of `read_units`.
use Rattle.std.proofs.Common.{All}
use Rattle.bsc_octet.specs.Octet.{IsOdd}
use Rattle.bsc_frame.proofs.UnitSteps.{ReadTo}
use Rattle.bsc_frame.proofs.unit_decoder.read_units.Given as goal

abbrev pub invariant-loop-count : goal.invariant-loop-count
invariant-loop-count l = record {
  read : ReadTo l.buffer l.count l.rest l.fn.octets;
  odd : All IsOdd l.rest;
}
