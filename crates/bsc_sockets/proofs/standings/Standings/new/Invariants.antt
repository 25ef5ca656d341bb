-- Nothing is known of the places so far.
use Rattle.std.proofs.Common.{◌≡◌}
use Rattle.std.specs.Prelude.{replicate}
use Rattle.bsc_sockets.specs.Standings.{unknown}
use Rattle.bsc_sockets.proofs.standings.Standings.new.Given as goal

abbrev pub invariant-loop : goal.invariant-loop
invariant-loop g l = l.standings.items ≡ replicate l.counter unknown
