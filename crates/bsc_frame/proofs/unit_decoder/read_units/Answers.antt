-- `read_units` reads the units of a text one after another.
use Rattle.std.proofs.Common.{nat_lt, refl, sym}
use Rattle.std.proofs.lemmas.Bool.{eqb-true, eqb-false, eq-eqb}
use Rattle.bsc_frame.specs.declared.text.End.TheVariants.{Etb, Etx}
use Rattle.bsc_octet.specs.declared.controls.TheConstants.{ETB_CODE}
use Rattle.bsc_frame.proofs.ReadingSteps.{test_false}
use Rattle.bsc_frame.proofs.UnitSteps.{read_start, read_stop, read_more, read_extra, read_whole}
use Rattle.bsc_frame.proofs.UnitSteps.{read_all, rest_odd}
use Rattle.bsc_frame.proofs.unit_decoder.read_units.Goals as goal

pub loop-count-init : goal.loop-count-init
loop-count-init c = record {
  read = read_start c.args.buffer.now c.args.octets.now c.requires.buffer c.requires.empty;
  odd = c.requires.odd;
}

pub returns-in_default-clause-none : goal.returns-in_default-clause-none
returns-in_default-clause-none c =
    sym (read_stop c.loop-count.buffer c.loop-count.count c.loop-count.rest.now c.args.octets.now
    c.loop-count.invariant.read c.in_default.ensures.none)

pub returns-then-not-is_empty-clause-none : goal.returns-then-not-is_empty-clause-none
returns-then-not-is_empty-clause-none c =
    sym (read_extra c.loop-count.buffer c.take_unit.new.buffer c.loop-count.count c.in-Some.ending
    c.loop-count.rest.now c.in-Some.left.now c.args.octets.now c.loop-count.invariant.read
    c.loop-count-test.true c.in-Some.ensures.found c.if-ending-ne-US_CODE.true
    (eqb-false _ 0 (sym c.if-not-is_empty.ensures)))

pub returns-then-ending-eq-ETB_CODE-clause-found : goal.returns-then-ending-eq-ETB_CODE-clause-found
returns-then-ending-eq-ETB_CODE-clause-found c =
    read_whole c.loop-count.buffer c.take_unit.new.buffer c.loop-count.count c.in-Some.ending
    c.loop-count.rest.now c.in-Some.left.now c.args.octets.now Etb c.loop-count.invariant.read
    c.loop-count-test.true c.in-Some.ensures.found c.if-ending-ne-US_CODE.true
    (eqb-true _ 0 (sym c.if-not-is_empty.ensures))
    (rw (eq-eqb _ ETB_CODE c.if-ending-eq-ETB_CODE.true) refl)

pub returns-else-ending-eq-ETB_CODE-clause-found : goal.returns-else-ending-eq-ETB_CODE-clause-found
returns-else-ending-eq-ETB_CODE-clause-found c =
    read_whole c.loop-count.buffer c.take_unit.new.buffer c.loop-count.count c.in-Some.ending
    c.loop-count.rest.now c.in-Some.left.now c.args.octets.now Etx c.loop-count.invariant.read
    c.loop-count-test.true c.in-Some.ensures.found c.if-ending-ne-US_CODE.true
    (eqb-true _ 0 (sym c.if-not-is_empty.ensures))
    (rw (test_false _ ETB_CODE c.if-ending-eq-ETB_CODE.false) refl)

pub loop-count-preserved : goal.loop-count-preserved
loop-count-preserved c = record {
  read =
      read_more c.loop-count.buffer c.take_unit.new.buffer c.loop-count.count c.in-Some.ending
      c.loop-count.rest.now c.in-Some.left.now c.args.octets.now
      c.loop-count.invariant.read c.loop-count-test.true c.in-Some.ensures.found
      c.if-ending-ne-US_CODE.false;
  odd =
      rest_odd (nat_lt 0 c.loop-count.count) c.loop-count.rest.now c.in-Some.ensures.found.unit
      c.in-Some.ending c.in-Some.left.now c.loop-count.invariant.odd
      c.in-Some.ensures.found.reads;
}

pub returns-clause-none : goal.returns-clause-none
returns-clause-none c =
    sym (read_all c.loop-count.buffer c.loop-count.count c.loop-count.rest.now c.args.octets.now
    c.loop-count.invariant.read c.loop-count-test.false)
