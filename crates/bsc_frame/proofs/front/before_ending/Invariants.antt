-- The loop invariant of `before_ending`, and the number that its loop decreases.
use Rattle.std.proofs.Common.{◌-◌, length}
use Rattle.bsc_frame.specs.Reading.{is_before_ending}
use Rattle.bsc_frame.proofs.Runs.{CountedTo}
use Rattle.bsc_frame.proofs.front.before_ending.Given as goal

abbrev pub invariant-loop-at : goal.invariant-loop-at
invariant-loop-at l = CountedTo is_before_ending l.at l.octets

abbrev pub decreases-loop-at : goal.decreases-loop-at
decreases-loop-at l = length l.octets - l.at
