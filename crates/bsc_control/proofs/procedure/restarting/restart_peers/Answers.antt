-- `restart_peers` lets each peer begin again.
use Rattle.bsc_control.specs.Peer.{restarted_peer}
use Rattle.bsc_control.proofs.PeerLists.{map_with_one_more}
use Rattle.bsc_control.proofs.procedure.restarting.restart_peers.Goals as goal

pub loop-peer-preserved : goal.loop-peer-preserved
loop-peer-preserved g c =
    map_with_one_more restarted_peer c.args.peers.now.items _ _ _ _ _ c.loop-peer-test.true
    c.deref_mut-peer-items.ensures.value c.loop-peer.invariant c.peer-item.is c.restart.ensures
