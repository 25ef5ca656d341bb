-- The loop of `either_rest` stops at the first octet that is neither of the two.
use Rattle.std.proofs.Common.{refl}
use Rattle.std.proofs.lemmas.Bool.{eq-eqb}
use Rattle.bsc_frame.proofs.ReadingSteps.{test_false}
use Rattle.bsc_frame.specs.Reading.{is_either}
use Rattle.bsc_frame.proofs.Runs.{run_more, run_stop, run_end}
use Rattle.bsc_frame.proofs.front.either_rest.Goals as goal
use Rattle.bsc_frame.proofs.front.either_rest.Goals.{else-octet-one-via-else-octet-one}
use Rattle.bsc_frame.proofs.front.either_rest.Goals.{else-octet-one-via-then-octet-one+else-octet-other}

pub returns-then-octet-other-clause-count : goal.returns-then-octet-other-clause-count
returns-then-octet-other-clause-count c =
    run_stop (is_either c.args.one c.args.other) c.loop-i.i c.args.octets.now c.loop-i.invariant
    c.loop-i-test.true
    (rw (
      test_false _ c.args.one c.if-octet-one.true,
      test_false _ c.args.other c.if-octet-other.true,
    ) refl)

pub loop-i-preserved : goal.loop-i-preserved
loop-i-preserved c =
    run_more (is_either c.args.one c.args.other) c.loop-i.i c.args.octets.now c.loop-i.invariant
    c.loop-i-test.true
    (elim c.else-octet-one.branch [
      | else-octet-one-via-then-octet-one+else-octet-other w ↦
          rw (
            test_false _ c.args.one w.if-octet-one.true,
            eq-eqb _ c.args.other w.if-octet-other.false,
          ) refl
      | else-octet-one-via-else-octet-one w ↦ rw (eq-eqb _ c.args.one w.if-octet-one.false) refl
    ])

pub returns-clause-count : goal.returns-clause-count
returns-clause-count c =
    run_end (is_either c.args.one c.args.other) c.loop-i.i c.args.octets.now c.loop-i.invariant
    c.loop-i-test.false
