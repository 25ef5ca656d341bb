-- `take_front` adds the unit of a front without fill if its check is right.
use Rattle.std.proofs.Common.{map}
use Rattle.bsc_frame.specs.TextBuffers.{AddsUnit}
use Rattle.bsc_frame.specs.Reading.{read_unit, after_start}
use Rattle.bsc_octet.specs.Octet.{code_in}
use Rattle.bsc_frame.proofs.CarriedOctets.{carried_of_odd_octets}
use Rattle.bsc_frame.proofs.Taking.{wrong_check_none, wrong_unit, right_unit, odd_start}
use Rattle.bsc_frame.proofs.Taking.{ends_start}
use Rattle.bsc_frame.proofs.unit_decoder.take_front.Goals as goal

pub returns-in_default-clause-none : goal.returns-in_default-clause-none
returns-in_default-clause-none c =
    wrong_check_none c.args.after_us c.args.front.now c.args.octets.now
    (rw c.in_default.is at c.after_check.ensures)

pub take_chars-requires-clause-odd : goal.take_chars-requires-clause-odd
take_chars-requires-clause-odd c =
    rw c.without_start.ensures (odd_start c.args.after_us c.args.front.now c.requires.odd)

pub take_chars-requires-clause-ends : goal.take_chars-requires-clause-ends
take_chars-requires-clause-ends c =
    rw c.without_start.ensures (ends_start c.args.after_us c.args.front.now c.requires.ends)

pub returns-in_default-take_chars-clause-none : goal.returns-in_default-take_chars-clause-none
returns-in_default-take_chars-clause-none c =
    wrong_unit c.args.after_us c.args.front.now c.args.octets.now c.in-Some.rest.now
    (carried_of_odd_octets c.args.front.now c.requires.odd c.type_inv.front) c.in-Some.ensures
    (rw c.without_start.ensures at c.in_default-take_chars.ensures.none)

pub returns-clause-found : goal.returns-clause-found
returns-clause-found c =
    let found : AddsUnit c.args.buffer.now c.take_chars.new.buffer
    (read_unit (map code_in (after_start c.args.after_us c.args.front.now)))
    c.in-Some-take_chars.ending =
    rw c.without_start.ensures at c.in-Some-take_chars.ensures.found in
    record {
      unit = found.unit;
      reads =
          right_unit c.args.after_us c.args.front.now c.args.octets.now c.in-Some.rest.now
          found.unit c.in-Some-take_chars.ending
          (carried_of_odd_octets c.args.front.now c.requires.odd c.type_inv.front) c.in-Some.ensures
          found.reads;
      units = found.units;
      buffer = found.buffer;
    }
