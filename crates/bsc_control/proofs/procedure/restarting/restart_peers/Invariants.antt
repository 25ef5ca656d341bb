-- The peers so far began again.
use Rattle.std.proofs.Common.{◌≡◌, ◌++◌, map, take, drop}
use Rattle.bsc_control.specs.Peer.{restarted_peer}
use Rattle.bsc_control.proofs.procedure.restarting.restart_peers.Given as goal

abbrev pub invariant-loop-peer : goal.invariant-loop-peer
invariant-loop-peer g l =
    l.peer-items
    ≡ map restarted_peer (take l.peer-index l.fn.peers.items)
    ++ drop l.peer-index l.fn.peers.items
