-- No gap is awaited at the places so far.
use Rattle.std.proofs.Common.{◌≡◌}
use Rattle.std.specs.Prelude.{replicate, None}
use Rattle.bsc_sockets.proofs.times.Times.new.Given as goal

abbrev pub invariant-loop : goal.invariant-loop
invariant-loop g l = l.gaps.items ≡ replicate l.counter None
