-- `begin_bid` is the row of ACK0 after a selection.
use Rattle.std.proofs.Common.{◌<◌, length, refl, sym, ◌∙◌, subst}
use Rattle.bsc_bid.specs.Sender.{begin_step}
use Rattle.bsc_control.specs.Control.{peer_at}
use Rattle.bsc_control.proofs.Entries.{peer_with_outbound, entries_with_peer}
use Rattle.bsc_control.proofs.Present.{step_made}
use Rattle.bsc_control.proofs.Reached.{peer_reached, outbound_reached}
use Rattle.bsc_control.proofs.procedure.Procedure.begin_bid.Goals as goal

pub invariant_of-peer : goal.invariant_of-peer
invariant_of-peer g c =
    peer_with_outbound _ c.args.select c.begin-outcome.new.self c.begin-outcome.ensures.outbound
    c.peer.invariant

pub invariant_of-self : goal.invariant_of-self
invariant_of-self g c =
    let peer =
    peer_with_outbound _ c.args.select c.begin-outcome.new.self c.begin-outcome.ensures.outbound
    c.peer.invariant in
    entries_with_peer _ c.current-terminal.result _ peer c.self.invariant

pub returns-clause-row : goal.returns-clause-row
returns-clause-row g c =
    let terminal = c.current-terminal.ensures in
    let peer =
    peer_reached c.self.view_is terminal.there c.peer.view_is c.index_mut-peer.ensures.value in
    let there =
    subst (λ t. c.args.select < length (peer_at c.args.self.now t).outbounds) (sym terminal.value)
    c.requires.there in
    let reached = outbound_reached peer there c.index_mut-outbound.ensures.value in
    let step = c.begin-outcome.ensures in
    c.perform.ensures.row
    ∙ step_made _ _ _ c.args.select _ _ c.begin-outcome.new.self c.begin-outcome.result _
    (λ o. begin_step o.sender o.queue) _ _ reached terminal.value
    step.state step.outcome step.sent refl
