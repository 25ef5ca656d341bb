-- `in_doubt` returns whether the sender is in doubt.
use Rattle.std.proofs.Common.{◌<◌, length, ap, ◌∙◌}
use Rattle.bsc_bid.specs.Sender.{is_in_doubt}
use Rattle.bsc_control.specs.Control.{peer_at}
use Rattle.bsc_control.proofs.Controls.{selection_within_outbounds}
use Rattle.bsc_control.proofs.Reached.{peer_reached, outbound_reached, read_left}
use Rattle.bsc_control.proofs.control.Control.in_doubt.Goals as goal

pub returns-clause-value : goal.returns-clause-value
returns-clause-value g c =
    let station = ap (λ x. x.procedure) c.self-inside.view_is in
    let within : c.args.terminal < length c.self.inside.procedure.peers =
    rw c.self.view_is c.requires.terminal in
    let there : c.select.result < length
    (peer_at c.self.inside.procedure c.args.terminal).outbounds =
    rw (c.select.ensures, c.self.view_is) (selection_within_outbounds c.args.way _ c.requires.way) in
    let peer = peer_reached station within c.peer.view_is c.index-peer.ensures in
    let reached = outbound_reached peer there c.index-outbound.ensures in
    read_left (λ o. is_in_doubt o.sender.phase) _ _ _ c.args.terminal c.select.result _ _ _
    c.in_doubt.result reached c.self.view_is c.select.ensures
    (c.in_doubt.ensures ∙ ap (λ o. is_in_doubt o.sender.phase) c.outbound.view_is)
