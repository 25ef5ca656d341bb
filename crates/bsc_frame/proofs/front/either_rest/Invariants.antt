-- The loop invariant of `either_rest`.
use Rattle.bsc_frame.specs.Reading.{is_either}
use Rattle.bsc_frame.proofs.Runs.{CountedTo}
use Rattle.bsc_frame.proofs.front.either_rest.Given as goal

abbrev pub invariant-loop-i : goal.invariant-loop-i
invariant-loop-i l = CountedTo (is_either l.one l.other) l.i l.octets
