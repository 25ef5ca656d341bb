-- Whether the peer of one of the connections so far may answer.
use Rattle.std.proofs.Common.{◌≡◌}
use Rattle.bsc_connections.specs.Attending.{is_reached_below}
use Rattle.bsc_connections.proofs.reached.is_any_reached.Given as goal

abbrev pub invariant-places : goal.invariant-places
invariant-places g l =
    l.any
    ≡ is_reached_below (g.M.Monitor.may_answer l.monitor l.station) l.connections l.place
