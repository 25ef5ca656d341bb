-- The loop invariant of `squeeze_part`.
use Rattle.bsc_frame.proofs.Squeezing.{SqueezedTo}
use Rattle.bsc_frame.proofs.squeeze.squeeze_part.Given as goal

abbrev pub invariant-loop-octet : goal.invariant-loop-octet
invariant-loop-octet l = SqueezedTo l.fn.buffer l.start l.count l.buffer l.octet-index l.octets
