-- `either_front` counts the octets at the front that are one of the two, 32 at a time.
use Rattle.bsc_frame.specs.Reading.{is_either}
use Rattle.std.proofs.Common.{refl}
use Rattle.bsc_frame.proofs.ReadingSteps.{test_false}
use Rattle.bsc_frame.proofs.Runs.{run_none, run_stops, run_goes_on, run_rest}
use Rattle.bsc_frame.proofs.front.either_front.Goals as goal

pub returns-then-run-lt-LANES-clause-count : goal.returns-then-run-lt-LANES-clause-count
returns-then-run-lt-LANES-clause-count c =
    run_stops (is_either c.args.one c.args.other) c.loop-at.at c.either_in-run.result
    c.args.octets.now c.loop-at.invariant c.loop-at-test.true c.either_in-run.ensures
    c.if-run-lt-LANES.true

pub loop-at-preserved : goal.loop-at-preserved
loop-at-preserved c =
    run_goes_on (is_either c.args.one c.args.other) c.loop-at.at c.either_in-run.result
    c.args.octets.now c.loop-at.invariant c.loop-at-test.true c.either_in-run.ensures
    c.if-run-lt-LANES.false

pub returns-then-octets-other-clause-count : goal.returns-then-octets-other-clause-count
returns-then-octets-other-clause-count c =
    run_none (is_either c.args.one c.args.other) c.args.octets.now
    (rw (
      test_false _ c.args.one c.if-octets-one.true,
      test_false _ c.args.other c.if-octets-other.true,
    ) refl)

pub returns-clause-count : goal.returns-clause-count
returns-clause-count c =
    run_rest (is_either c.args.one c.args.other) c.loop-at.at c.either_rest.result
    c.args.octets.now c.loop-at.invariant c.either_rest.ensures.count
