-- The poll list names the terminals as before.
use Rattle.bsc_control.proofs.Entries.{entries_restarted}
use Rattle.bsc_control.proofs.procedure.Procedure.restart.Goals as goal

pub invariant_of-self : goal.invariant_of-self
invariant_of-self g c =
    entries_restarted _ c.restart_peers.new.peers.items c.self.invariant c.restart_peers.ensures
