-- The loop invariant of `send_all`.
use Rattle.bsc_connections.specs.Parts.{connection_parts}
use Rattle.bsc_connections.specs.Connections.{Sends}
use Rattle.bsc_connections.proofs.Places.{IsPassed}
use Rattle.bsc_connections.proofs.replying.send_all.Given as goal

-- The connections below the index have sent the transmission, and the others are unchanged.
abbrev pub invariant-connections : goal.invariant-connections
invariant-connections g l =
    IsPassed (Sends (connection_parts g.R.Read g.W.Write g.F.Framing) l.octets) l.fn.connections
    l.connections l.connection-index
