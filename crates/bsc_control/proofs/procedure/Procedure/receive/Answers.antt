-- `receive` is the row of a transmission in a poll.
use Rattle.std.proofs.Common.{◌≡◌, refl, sym, ap, ◌∙◌}
use Rattle.std.specs.Prelude.{option_map}
use Rattle.bsc_frame.specs.declared.message.Message.TheVariants as m
use Rattle.bsc_control.proofs.Entries.{entries_with_peer}
use Rattle.bsc_control.proofs.Reached.{peer_reached}
use Rattle.bsc_control.proofs.Receiving.{received_row, received_room}
use Rattle.bsc_control.proofs.procedure.Procedure.receive.Goals.{in-Some, in-None}
use Rattle.bsc_control.proofs.procedure.Procedure.receive.Goals as goal

pub invariant_of-self : goal.invariant_of-self
invariant_of-self g c =
    let entries =
    entries_with_peer _ c.current-terminal.result _ c.receive-reply.ensures.peer c.self.invariant in
    record { place = entries.place; entries = entries.entries; peers = entries.peers }

pub returns-clause-row : goal.returns-clause-row
returns-clause-row g c =
    let terminal = c.current-terminal.ensures in
    let reached =
    peer_reached c.self.view_is terminal.there refl c.index_mut-peer.ensures.value in
    let sent : c.match-reply.sent ≡ option_map m.Reply c.receive-reply.result =
    elim c.match-reply.branch [
      | in-Some w ↦ w.sent-is ∙ (w.set_reply.ensures
          ∙ sym (ap (option_map m.Reply) w.in-Some.is))
      | in-None w ↦ w.sent-is ∙ (w.clear.ensures
          ∙ sym (ap (option_map m.Reply) w.in-None.is))
    ] in
    received_row _ _ _ _ _ c.args.heard.now c.args.replied _ _ _ reached terminal.value
    c.receive-reply.ensures.receives c.after.ensures sent c.requires

pub returns-clause-room : goal.returns-clause-room
returns-clause-room g c =
    let terminal = c.current-terminal.ensures in
    let reached =
    peer_reached c.self.view_is terminal.there refl c.index_mut-peer.ensures.value in
    received_room _ _ _ _ _ c.args.heard.now c.after.result _ reached terminal.value
    c.receive-reply.ensures.receives

pub returns-clause-entries : goal.returns-clause-entries
returns-clause-entries g c = invariant_of-self g c
