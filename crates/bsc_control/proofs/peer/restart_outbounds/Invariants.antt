-- The sending sides so far began again.
use Rattle.std.proofs.Common.{◌≡◌, ◌++◌, map, take, drop}
use Rattle.bsc_control.specs.Peer.{restarted_outbound}
use Rattle.bsc_control.proofs.peer.restart_outbounds.Given as goal

abbrev pub invariant-loop-outbound : goal.invariant-loop-outbound
invariant-loop-outbound g l =
    l.outbound-items
    ≡ map restarted_outbound (take l.outbound-index l.fn.outbounds.items)
    ++ drop l.outbound-index l.fn.outbounds.items
