-- `take_chars` adds the unit that the codes of the octets are read as.
use Rattle.std.proofs.Common.{arith, map, ◌∙◌, sym}
use Rattle.bsc_octet.specs.Octet.{code_in}
use Rattle.bsc_frame.proofs.CarriedOctets.{carried_of_odd_octets}
use Rattle.bsc_frame.proofs.Taking.{parts_none, parts_read, chars_unit}
use Rattle.bsc_frame.proofs.unit_decoder.take_chars.Goals as goal

pub returns-then-chars-gt-MAX_CHARS-clause-none : goal.returns-then-chars-gt-MAX_CHARS-clause-none
returns-then-chars-gt-MAX_CHARS-clause-none c =
    parts_none c.args.octets.now c.parts_of-em.result.chars.now c.parts_of-em.result.em
    c.parts_of-em.result.last (carried_of_odd_octets c.args.octets.now c.requires.odd c.type_inv.octets)
    c.parts_of-em.ensures (λ l h. omega arith)

pub returns-then-not-copy_codes-clause-none : goal.returns-then-not-copy_codes-clause-none
returns-then-not-copy_codes-clause-none c =
    parts_none c.args.octets.now c.parts_of-em.result.chars.now c.parts_of-em.result.em
    c.parts_of-em.result.last (carried_of_odd_octets c.args.octets.now c.requires.odd c.type_inv.octets)
    c.parts_of-em.ensures
    (λ l h. let k = c.copy_codes.ensures.chars in let n = c.if-not-copy_codes.true in cc)

pub push-requires-clause-unit : goal.push-requires-clause-unit
push-requires-clause-unit c =
    rw c.copy_codes.ensures.codes (chars_unit c.parts_of-em.result.chars.now c.parts_of-em.result.em
    c.if-chars-gt-MAX_CHARS.false (sym c.copy_codes.ensures.chars ∙ c.if-not-copy_codes.false))

pub returns-clause-found : goal.returns-clause-found
returns-clause-found c = record {
  unit =
      record { chars = map code_in c.parts_of-em.result.chars.now; em = c.parts_of-em.result.em };
  reads =
      rw c.code_in.ensures (parts_read c.args.octets.now c.parts_of-em.result.chars.now
      c.parts_of-em.result.em c.parts_of-em.result.last
      (carried_of_odd_octets c.args.octets.now c.requires.odd c.type_inv.octets) c.requires.ends
      c.parts_of-em.ensures c.if-chars-gt-MAX_CHARS.false
      (sym c.copy_codes.ensures.chars ∙ c.if-not-copy_codes.false));
  units = rw c.copy_codes.ensures.codes at c.push.ensures.units;
  buffer = c.push.ensures.buffer;
}
