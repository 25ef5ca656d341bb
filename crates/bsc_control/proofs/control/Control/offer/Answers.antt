-- `offer` adds the record to its queue, or gives it back.
use Rattle.std.proofs.Common.{◌<◌, length, sym, ◌∙◌, ap}
use Rattle.bsc_bid.specs.Addresses.{numbered}
use Rattle.bsc_control.specs.Control.{peer_at}
use Rattle.bsc_control.proofs.Controls.{keeps_outbound_offer}
use Rattle.bsc_control.proofs.Entries.{peer_with_outbound, entries_with_peer}
use Rattle.bsc_control.proofs.Reached.{peer_reached, outbound_reached, stays_reached}
use Rattle.bsc_control.proofs.Reached.{unchanged_reached, offered_left}
use Rattle.bsc_control.proofs.control.Control.offer.Goals as goal

pub invariant_of-peer : goal.invariant_of-peer
invariant_of-peer g c =
    peer_with_outbound _ c.args.select c.offer.new.self c.offer.ensures.outbound c.peer.invariant

pub invariant_of-procedure : goal.invariant_of-procedure
invariant_of-procedure g c =
    let peer =
    peer_with_outbound _ c.args.select c.offer.new.self c.offer.ensures.outbound c.peer.invariant in
    entries_with_peer _ c.args.terminal _ peer c.procedure.invariant

pub invariant_of-self : goal.invariant_of-self
invariant_of-self g c =
    let within : c.args.terminal < length c.self.inside.procedure.peers =
    rw c.self.view_is c.requires.terminal in
    let there : c.args.select < length (peer_at c.self.inside.procedure c.args.terminal).outbounds =
    rw c.self.view_is c.requires.select in
    let peer =
    peer_reached c.procedure.view_is within c.peer.view_is c.index_mut-peer.ensures.value in
    let reached = outbound_reached peer there c.index_mut-outbound.ensures.value in
    let keeps =
    keeps_outbound_offer c.offer.result c.index_mut-outbound.result.now c.offer.new.self
    c.args.record
    c.offer.ensures.ok c.offer.ensures.err in
    let stays = stays_reached c.self.invariant.0 reached c.offer.ensures.outbound keeps in
    (stays.control, c.self.invariant.1 ∙ ap (numbered 0) (sym stays.same))

pub returns-clause-err : goal.returns-clause-err
returns-clause-err g c =
    let within : c.args.terminal < length c.self.inside.procedure.peers =
    rw c.self.view_is c.requires.terminal in
    let there : c.args.select < length (peer_at c.self.inside.procedure c.args.terminal).outbounds =
    rw c.self.view_is c.requires.select in
    let peer =
    peer_reached c.procedure.view_is within c.peer.view_is c.index_mut-peer.ensures.value in
    let reached = outbound_reached peer there c.index_mut-outbound.ensures.value in
    rw (← c.self.view_is) (unchanged_reached c.offer.result c.offer.new.self reached
    c.offer.ensures.err)

pub returns-clause-control : goal.returns-clause-control
returns-clause-control g c = (invariant_of-self g c).0

pub returns-clause-ok : goal.returns-clause-ok
returns-clause-ok g c =
    let within : c.args.terminal < length c.self.inside.procedure.peers =
    rw c.self.view_is c.requires.terminal in
    let there : c.args.select < length (peer_at c.self.inside.procedure c.args.terminal).outbounds =
    rw c.self.view_is c.requires.select in
    let peer =
    peer_reached c.procedure.view_is within c.peer.view_is c.index_mut-peer.ensures.value in
    let reached = outbound_reached peer there c.index_mut-outbound.ensures.value in
    offered_left c.offer.result _ _ _ c.args.terminal c.args.select _ _ c.offer.new.self
    c.args.record reached c.self.view_is c.offer.ensures.ok
