-- The loop invariant of `either_front`, and the number that its loop decreases.
use Rattle.std.proofs.Common.{◌-◌, length}
use Rattle.bsc_frame.specs.Reading.{is_either}
use Rattle.bsc_frame.proofs.Runs.{CountedTo}
use Rattle.bsc_frame.proofs.front.either_front.Given as goal

abbrev pub invariant-loop-at : goal.invariant-loop-at
invariant-loop-at l = CountedTo (is_either l.one l.other) l.at l.octets

abbrev pub decreases-loop-at : goal.decreases-loop-at
decreases-loop-at l = length l.octets - l.at
