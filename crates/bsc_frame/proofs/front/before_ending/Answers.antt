-- `before_ending` counts the octets before the first US, ETB or ETX, 32 at a time.
use Rattle.bsc_frame.specs.Reading.{is_before_ending}
use Rattle.bsc_frame.proofs.Runs.{run_stops, run_goes_on, run_rest}
use Rattle.bsc_frame.proofs.front.before_ending.Goals as goal

pub returns-then-run-lt-LANES-clause-count : goal.returns-then-run-lt-LANES-clause-count
returns-then-run-lt-LANES-clause-count c =
    run_stops is_before_ending c.loop-at.at c.before_ending_in-run.result c.args.octets.now
    c.loop-at.invariant c.loop-at-test.true c.before_ending_in-run.ensures
    c.if-run-lt-LANES.true

pub loop-at-preserved : goal.loop-at-preserved
loop-at-preserved c =
    run_goes_on is_before_ending c.loop-at.at c.before_ending_in-run.result c.args.octets.now
    c.loop-at.invariant c.loop-at-test.true c.before_ending_in-run.ensures
    c.if-run-lt-LANES.false

pub returns-clause-count : goal.returns-clause-count
returns-clause-count c =
    run_rest is_before_ending c.loop-at.at c.before_ending_rest.result c.args.octets.now
    c.loop-at.invariant c.before_ending_rest.ensures.count
