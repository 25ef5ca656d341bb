-- `release` makes the sender's release step and returns its answer.
use Rattle.std.proofs.Common.{◌<◌, length, sym, ◌∙◌, ap}
use Rattle.bsc_bid.specs.Sender.{release_step}
use Rattle.bsc_bid.specs.Addresses.{numbered}
use Rattle.bsc_control.specs.Control.{peer_at}
use Rattle.bsc_control.proofs.Controls.{keeps_outbound_release, selection_within_outbounds}
use Rattle.bsc_control.proofs.Entries.{peer_with_outbound, entries_with_peer}
use Rattle.bsc_control.proofs.Reached.{peer_reached, outbound_reached, stays_reached}
use Rattle.bsc_control.proofs.Reached.{released_left, read_left}
use Rattle.bsc_control.proofs.control.Control.release.Goals as goal

pub invariant_of-peer : goal.invariant_of-peer
invariant_of-peer g c =
    peer_with_outbound _ c.select.result c.release.new.self c.release.ensures.outbound
    c.peer.invariant

pub invariant_of-procedure : goal.invariant_of-procedure
invariant_of-procedure g c =
    let peer =
    peer_with_outbound _ c.select.result c.release.new.self c.release.ensures.outbound
    c.peer.invariant in
    entries_with_peer _ c.args.terminal _ peer c.procedure.invariant

pub invariant_of-self : goal.invariant_of-self
invariant_of-self g c =
    let within : c.args.terminal < length c.self.inside.procedure.peers =
    rw c.self.view_is c.requires.terminal in
    let there : c.select.result < length
    (peer_at c.self.inside.procedure c.args.terminal).outbounds =
    rw (c.select.ensures, c.self.view_is) (selection_within_outbounds c.args.way _ c.requires.way) in
    let peer =
    peer_reached c.procedure.view_is within c.peer.view_is c.index_mut-peer.ensures.value in
    let reached = outbound_reached peer there c.index_mut-outbound.ensures.value in
    let keeps =
    keeps_outbound_release c.index_mut-outbound.result.now c.release.new.self c.args.count
    c.release.ensures.state in
    let stays = stays_reached c.self.invariant.0 reached c.release.ensures.outbound keeps in
    (stays.control, c.self.invariant.1 ∙ ap (numbered 0) (sym stays.same))

pub returns-clause-control : goal.returns-clause-control
returns-clause-control g c = (invariant_of-self g c).0

pub returns-clause-state : goal.returns-clause-state
returns-clause-state g c =
    let within : c.args.terminal < length c.self.inside.procedure.peers =
    rw c.self.view_is c.requires.terminal in
    let there : c.select.result < length
    (peer_at c.self.inside.procedure c.args.terminal).outbounds =
    rw (c.select.ensures, c.self.view_is) (selection_within_outbounds c.args.way _ c.requires.way) in
    let peer =
    peer_reached c.procedure.view_is within c.peer.view_is c.index_mut-peer.ensures.value in
    let reached = outbound_reached peer there c.index_mut-outbound.ensures.value in
    released_left _ _ _ c.args.terminal c.select.result _ _ _ c.release.new.self c.args.count
    reached c.self.view_is c.select.ensures c.release.ensures.state

pub returns-clause-answer : goal.returns-clause-answer
returns-clause-answer g c =
    let within : c.args.terminal < length c.self.inside.procedure.peers =
    rw c.self.view_is c.requires.terminal in
    let there : c.select.result < length
    (peer_at c.self.inside.procedure c.args.terminal).outbounds =
    rw (c.select.ensures, c.self.view_is) (selection_within_outbounds c.args.way _ c.requires.way) in
    let peer =
    peer_reached c.procedure.view_is within c.peer.view_is c.index_mut-peer.ensures.value in
    let reached = outbound_reached peer there c.index_mut-outbound.ensures.value in
    read_left (λ o. (release_step o.sender o.queue c.args.count).answer) _ _ _ c.args.terminal
    c.select.result _ _ _ c.release.result reached c.self.view_is c.select.ensures
    c.release.ensures.answer
