-- `set_urgent` raises the urgent flag of the terminal only.
use Rattle.std.proofs.Common.{true, ◌<◌, length, sym, ◌∙◌, ap}
use Rattle.bsc_bid.specs.Addresses.{numbered}
use Rattle.bsc_control.specs.Peer.{PeerValue}
use Rattle.bsc_control.proofs.Controls.{urgent_is_flagged}
use Rattle.bsc_control.proofs.Entries.{peer_with_flag, entries_with_peer}
use Rattle.bsc_control.proofs.Reached.{peer_reached, stays_flag, flag_left}
use Rattle.bsc_control.proofs.control.Control.set_urgent.Goals as goal

pub invariant_of-self : goal.invariant_of-self
invariant_of-self g c =
    let within : c.args.terminal < length c.self.inside.procedure.peers =
    rw c.self.view_is c.requires in
    let peer =
    peer_reached c.procedure.view_is within c.peer.view_is c.index_mut-peer.ensures.value in
    let stays = stays_flag (λ (p : PeerValue). record p { urgent = true }) urgent_is_flagged
    c.self.invariant.0 peer in
    (stays.control, c.self.invariant.1 ∙ ap (numbered 0) (sym stays.same))

pub returns-clause-control : goal.returns-clause-control
returns-clause-control g c = (invariant_of-self g c).0

pub invariant_of-peer : goal.invariant_of-peer
invariant_of-peer g c = peer_with_flag _ true c.peer.invariant

pub invariant_of-procedure : goal.invariant_of-procedure
invariant_of-procedure g c =
    entries_with_peer _ c.args.terminal _ (peer_with_flag _ true c.peer.invariant)
    c.procedure.invariant

pub returns-clause-state : goal.returns-clause-state
returns-clause-state g c =
    let within : c.args.terminal < length c.self.inside.procedure.peers =
    rw c.self.view_is c.requires in
    let reached =
    peer_reached c.procedure.view_is within c.peer.view_is c.index_mut-peer.ensures.value in
    flag_left (λ (p : PeerValue). record p { urgent = true }) _ _ _ c.args.terminal _ reached
    c.self.view_is
