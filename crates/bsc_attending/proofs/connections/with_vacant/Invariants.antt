-- The places after the connections are vacant so far.
use Rattle.std.proofs.Common.{◌≡◌, ◌++◌, map}
use Rattle.std.specs.Prelude.{replicate, None}
use Rattle.bsc_attending.proofs.connections.with_vacant.Given as goal

abbrev pub invariant-loop : goal.invariant-loop
invariant-loop g l =
    map (λ c. c.ends) l.connections.items
    ≡ map (λ c. c.ends) l.initial.connections.items ++ replicate l.counter None
