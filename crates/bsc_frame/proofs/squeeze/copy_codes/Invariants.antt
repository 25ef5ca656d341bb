-- The loop invariant of `copy_codes`.
use Rattle.bsc_frame.proofs.Squeezing.{CopiedTo}
use Rattle.bsc_frame.proofs.squeeze.copy_codes.Given as goal

abbrev pub invariant-loop-i : goal.invariant-loop-i
invariant-loop-i l = CopiedTo l.chars l.buffer l.i l.octets
