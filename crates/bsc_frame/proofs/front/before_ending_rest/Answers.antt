-- The loop of `before_ending_rest` stops at the first US, ETB or ETX.
use Rattle.std.proofs.Common.{refl}
use Rattle.bsc_frame.proofs.ReadingSteps.{test_false}
use Rattle.bsc_frame.specs.Reading.{is_before_ending}
use Rattle.bsc_octet.specs.declared.controls.TheConstants.{ETB, ETX, US_CODE}
use Rattle.bsc_frame.proofs.Runs.{run_more, run_stop, run_end}
use Rattle.bsc_frame.proofs.front.before_ending_rest.Goals as goal
use Rattle.bsc_frame.proofs.front.before_ending_rest.Goals.{then-octet-eq-US-via-then-octet-eq-US}
use Rattle.bsc_frame.proofs.front.before_ending_rest.Goals.{then-octet-eq-US-via-else-octet-eq-US+then-octet}
use Rattle.bsc_frame.proofs.front.before_ending_rest.Goals.{then-octet-eq-US-via-else-octet-eq-US+else-octet+then-octet-2}

pub returns-then-octet-eq-US-clause-count : goal.returns-then-octet-eq-US-clause-count
returns-then-octet-eq-US-clause-count c =
    run_stop is_before_ending c.loop-i.i c.args.octets.now c.loop-i.invariant
    c.loop-i-test.true
    (elim c.then-octet-eq-US.branch [
      | then-octet-eq-US-via-then-octet-eq-US w ↦ rw w.if-octet-eq-US.true refl
      | then-octet-eq-US-via-else-octet-eq-US+then-octet w ↦ rw w.if-octet.true refl
      | then-octet-eq-US-via-else-octet-eq-US+else-octet+then-octet-2 w ↦ rw w.if-octet-2.true refl
    ])

pub loop-i-preserved : goal.loop-i-preserved
loop-i-preserved c =
    run_more is_before_ending c.loop-i.i c.args.octets.now c.loop-i.invariant
    c.loop-i-test.true (rw (
      test_false _ US_CODE c.if-octet-eq-US.false,
      test_false _ ETB c.if-octet.false,
      test_false _ ETX c.if-octet-2.false,
    ) refl)

pub returns-clause-count : goal.returns-clause-count
returns-clause-count c =
    run_end is_before_ending c.loop-i.i c.args.octets.now c.loop-i.invariant
    c.loop-i-test.false
