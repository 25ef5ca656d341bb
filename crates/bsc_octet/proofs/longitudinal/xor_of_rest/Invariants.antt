-- The loop invariant of `xor_of_rest`.
use Rattle.std.proofs.Common.{◌≡◌, ℕ, ◌%◌, take}
use Rattle.std.specs.Int.{bit_at}
use Rattle.bsc_octet.specs.Octet.{with_bit}
use Rattle.bsc_octet.proofs.longitudinal.xor_of_rest.Given as goal

abbrev pub invariant-loop-octet : goal.invariant-loop-octet
invariant-loop-octet l = (i : ℕ) → bit_at l.total i ≡ with_bit i (take l.octet-index l.octets) % 2
