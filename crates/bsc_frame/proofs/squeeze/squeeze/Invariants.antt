-- The loop invariant of `squeeze`, and the number that its loop decreases.
use Rattle.std.proofs.Common.{◌-◌, length}
use Rattle.bsc_frame.proofs.Squeezing.{PartsTo}
use Rattle.bsc_frame.proofs.squeeze.squeeze.Given as goal

abbrev pub invariant-loop-at : goal.invariant-loop-at
invariant-loop-at l = PartsTo l.count l.buffer l.at l.octets

abbrev pub decreases-loop-at : goal.decreases-loop-at
decreases-loop-at l = length l.octets - l.at
