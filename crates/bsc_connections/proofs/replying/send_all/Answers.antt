-- The loop of `send_all` sends on every connection.
use Rattle.std.proofs.Common.{arith}
use Rattle.bsc_connections.specs.Parts.{connection_parts}
use Rattle.bsc_connections.specs.Connections.{Sends}
use Rattle.bsc_connections.proofs.Places.{passed_at_start, passed_with_one_more}
use Rattle.bsc_connections.proofs.replying.send_all.Goals as goal
use Rattle.bsc_carrier.proofs.Places.{AllZip-from_places}

pub connections-init : goal.connections-init
connections-init g c =
    passed_at_start (Sends (connection_parts g.R.Read g.W.Write g.F.Framing) c.args.octets.now)
    c.args.connections.now

pub connections-preserved : goal.connections-preserved
connections-preserved g c =
    passed_with_one_more (Sends (connection_parts g.R.Read g.W.Write g.F.Framing) c.args.octets.now)
    c.args.connections.now c.connections.connections c.connections.connection-index
    c.connection-item.result c.send.new.self c.connections.auto.connections c.connections-test.true
    c.send.ensures c.connections.invariant

pub returns : goal.returns
returns g c =
    AllZip-from_places (Sends (connection_parts g.R.Read g.W.Write g.F.Framing) c.args.octets.now)
    c.args.connections.now c.connections.connections c.connections.auto.connections
    (λ i d below. c.connections.invariant.0 i d (omega (arith, below, c.connections-test.false)))
