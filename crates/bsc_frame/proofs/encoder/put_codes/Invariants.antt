-- The loop invariant of `put_codes`.
use Rattle.bsc_frame.proofs.WireSteps.{PutTo}
use Rattle.bsc_frame.proofs.encoder.put_codes.Given as goal

abbrev pub invariant-loop-i : goal.invariant-loop-i
invariant-loop-i l = PutTo l.octets l.i l.codes
