-- The loop of `trim_lanes` drops only PAD.
use Rattle.std.proofs.Common.{arith}
use Rattle.bsc_frame.proofs.Runs.{trim_more}
use Rattle.bsc_frame.proofs.body.trim_lanes.Goals as goal

pub loop-end-preserved : goal.loop-end-preserved
loop-end-preserved c = record {
  within = omega (arith, c.loop-end.invariant.within);
  same =
      trim_more c.args.octets.now c.loop-end.end c.either_in.result c.loop-end.invariant.same
      c.loop-end.invariant.within c.loop-end-test.true c.either_in.ensures
      c.if-either_in-lt-LANES.false;
}
