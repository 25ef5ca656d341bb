-- The loop of `squeeze` squeezes part after part, unless there are too many octets without fill.
use Rattle.std.proofs.Common.{arith, ◌+◌, ◌-◌, drop, length-take}
use Rattle.bsc_frame.proofs.Squeezing.{part_more, part_full}
use Rattle.bsc_frame.proofs.squeeze.squeeze.Goals as goal

pub returns-then-count-ge-TOO_MANY-clause-none : goal.returns-then-count-ge-TOO_MANY-clause-none
returns-then-count-ge-TOO_MANY-clause-none c =
    part_full c.loop-at.count c.loop-at.buffer c.loop-at.at c.args.octets.now c.loop-at.invariant
    c.if-count-ge-TOO_MANY.true

pub loop-at-preserved : goal.loop-at-preserved
loop-at-preserved c =
    part_more c.loop-at.count c.squeeze_part-count.result (c.loop-at.at + 16 - c.loop-at.at)
    c.loop-at.buffer c.squeeze_part-count.new.buffer c.loop-at.at c.args.octets.now
    c.loop-at.invariant c.loop-at-test.true
    c.if-count-ge-TOO_MANY.false c.squeeze_part-count.ensures.octets (omega arith)
    (omega (
      arith,
      c.squeeze_part-count.ensures.count,
      length-take (c.loop-at.at + 16 - c.loop-at.at) (drop c.loop-at.at c.args.octets.now),
    ))
    c.squeeze_part-count.array_long

pub returns-then-count-ge-TOO_MANY-2-clause-none : goal.returns-then-count-ge-TOO_MANY-2-clause-none
returns-then-count-ge-TOO_MANY-2-clause-none c =
    part_full c.loop-at.count c.loop-at.buffer c.loop-at.at c.args.octets.now c.loop-at.invariant
    c.if-count-ge-TOO_MANY-2.true
