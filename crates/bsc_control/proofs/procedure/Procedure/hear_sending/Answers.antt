-- `hear_sending` is the row of a transmission during a bid.
use Rattle.std.proofs.Common.{◌≡◌, ◌<◌, length, sym, ◌∙◌, subst, if◌then◌else◌, rules}
use Rattle.bsc_frame.specs.Replies.{reply_in}
use Rattle.bsc_bid.specs.Sender.{reply_step}
use Rattle.bsc_control.specs.CallOrder.{Interruption, Selection}
use Rattle.bsc_control.specs.Control.{peer_at}
use Rattle.bsc_control.specs.Table.{after_bid}
use Rattle.bsc_control.proofs.Entries.{peer_with_outbound, entries_with_peer}
use Rattle.bsc_control.proofs.Present.{step_made}
use Rattle.bsc_control.proofs.Reached.{peer_reached, outbound_reached}
use Rattle.bsc_control.proofs.procedure.Procedure.hear_sending.Goals as goal

pub invariant_of-peer : goal.invariant_of-peer
invariant_of-peer g c =
    peer_with_outbound _ c.args.select c.reply-outcome.new.self c.reply-outcome.ensures.outbound
    c.peer.invariant

pub invariant_of-self : goal.invariant_of-self
invariant_of-self g c =
    let peer =
    peer_with_outbound _ c.args.select c.reply-outcome.new.self c.reply-outcome.ensures.outbound
    c.peer.invariant in
    entries_with_peer _ c.current-terminal.result _ peer c.self.invariant

pub returns-clause-row : goal.returns-clause-row
returns-clause-row g c =
    let terminal = c.current-terminal.ensures in
    let peer =
    peer_reached c.self.view_is terminal.there c.peer.view_is c.index_mut-peer.ensures.value in
    let there =
    subst (λ t. c.args.select < length (peer_at c.args.self.now t).outbounds) (sym terminal.value)
    c.requires in
    let reached = outbound_reached peer there c.index_mut-outbound.ensures.value in
    let reply = c.reply-outcome.ensures in
    let same : (if c.eq-interrupted.result then Interruption else Selection c.args.select)
    ≡ after_bid c.args.select (reply_in c.args.heard.now) =
    search rules in
    c.perform.ensures.row
    ∙ step_made _ _ _ c.args.select _ _ c.reply-outcome.new.self c.reply-outcome.result _
    (λ o. reply_step o.sender o.queue (reply_in c.args.heard.now)) _ _ reached terminal.value
    reply.state reply.outcome reply.sent same
