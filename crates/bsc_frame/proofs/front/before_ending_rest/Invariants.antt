-- The loop invariant of `before_ending_rest`.
use Rattle.bsc_frame.specs.Reading.{is_before_ending}
use Rattle.bsc_frame.proofs.Runs.{CountedTo}
use Rattle.bsc_frame.proofs.front.before_ending_rest.Given as goal

abbrev pub invariant-loop-i : goal.invariant-loop-i
invariant-loop-i l = CountedTo is_before_ending l.i l.octets
