-- `restart_outbounds` lets each sending side begin again.
use Rattle.bsc_control.specs.Peer.{restarted_outbound}
use Rattle.bsc_control.proofs.PeerLists.{map_with_one_more}
use Rattle.bsc_control.proofs.peer.restart_outbounds.Goals as goal

pub loop-outbound-preserved : goal.loop-outbound-preserved
loop-outbound-preserved g c =
    map_with_one_more restarted_outbound c.args.outbounds.now.items _ _ _ _ _ c.loop-outbound-test.true
    c.deref_mut-outbound-items.ensures.value c.loop-outbound.invariant c.outbound-item.is c.restart.ensures
