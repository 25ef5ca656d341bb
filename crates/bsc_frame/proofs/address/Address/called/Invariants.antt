-- The loop invariant of `called`.
use Rattle.bsc_frame.proofs.Calls.{Called}
use Rattle.bsc_frame.proofs.address.Address.called.Given as goal

abbrev pub invariant-loop-i : goal.invariant-loop-i
invariant-loop-i l = Called l.buffer l.i l.octets
