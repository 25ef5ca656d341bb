-- What is kept for a terminal stays in order.
use Rattle.bsc_control.proofs.Entries.{peer_restarted}
use Rattle.bsc_control.proofs.peer.Peer.restart.Goals as goal

pub invariant_of-self : goal.invariant_of-self
invariant_of-self g c =
    peer_restarted _ c.new-self-inside.result c.restart_outbounds.new.outbounds.items
    c.self.invariant c.restart_outbounds.ensures
