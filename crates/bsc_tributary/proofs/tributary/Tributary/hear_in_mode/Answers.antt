-- `hear_in_mode` is the row of the mode.
use Rattle.std.proofs.Common.{subst, None}
use Rattle.bsc_tributary.specs.Tributary.{Hears}
use Rattle.bsc_tributary.specs.Kept.{IsTributary}
use Rattle.bsc_bid.proofs.Telling.{told_step}
use Rattle.bsc_tributary.proofs.Acts.{mode_told, sent_told}
use Rattle.bsc_tributary.proofs.Hearing.{holds_after_hearing}
use Rattle.bsc_tributary.proofs.InMode.{hears_control, hears_receiving, hears_sending}
use Rattle.bsc_tributary.proofs.InMode.{stays_receive_step, stays_replied}
use Rattle.bsc_tributary.proofs.tributary.Tributary.hear_in_mode.Goals as goal

pub invariant_of-self : goal.invariant_of-self
invariant_of-self g c =
    stays_receive_step _ c.in-Receiving.select c.still_urgent-self-inside.result
    c.receive-reply.new.receiver
    c.receive-reply.new.self c.self.invariant c.receive-reply.ensures.spools

pub invariant_of-self-in-Sending : goal.invariant_of-self-in-Sending
invariant_of-self-in-Sending g c =
    stays_replied _ c.args.heard.now c.perform.new.mode _ c.self.invariant c.in-Sending.is
    (told_step _ _ _ _ _ c.reply-outcome.ensures.row)
    (mode_told _ _ _ _ _ _ _ c.reply-outcome.ensures.row c.perform.ensures.mode)
    (c.reply-outcome.ensures.ready c.self.invariant.ready)

pub returns-in-Control : goal.returns-in-Control
returns-in-Control g c =
    let was : IsTributary c.args.self.now = subst IsTributary c.self.view_is c.self.invariant in
    let hears : Hears c.args.self.now c.args.heard.now c.args.self.now None =
    hears_control _ c.args.self.now c.args.heard.now c.requires c.self.view_is c.in-Control.is in
    rw c.clear.ensures (record { row = hears; after = holds_after_hearing _ _ _ _ was was hears })

pub returns-in-Receiving : goal.returns-in-Receiving
returns-in-Receiving g c =
    let hears =
    hears_receiving _ c.args.self.now c.args.heard.now c.in-Receiving.select
    c.still_urgent-self-inside.result
    c.receive-reply.new.receiver c.receive-reply.new.self c.receive-reply.result
    c.leave_reply.new.sent c.requires c.self.view_is
    c.in-Receiving.is c.receive-reply.ensures.receives c.receive-reply.ensures.spools
    c.still_urgent-self-inside.ensures
    c.leave_reply.ensures in
    record {
      row = hears;
      after = holds_after_hearing _ _ _ _ (subst IsTributary c.self.view_is c.self.invariant)
          (stays_receive_step _ c.in-Receiving.select c.still_urgent-self-inside.result
          c.receive-reply.new.receiver
          c.receive-reply.new.self c.self.invariant c.receive-reply.ensures.spools) hears;
    }

pub returns-in-Sending : goal.returns-in-Sending
returns-in-Sending g c =
    let hears =
    hears_sending _ c.args.self.now c.args.heard.now c.perform.new.mode _ c.perform.new.sent
    c.requires c.self.view_is
    c.in-Sending.is (told_step _ _ _ _ _ c.reply-outcome.ensures.row)
    (mode_told _ _ _ _ _ _ _ c.reply-outcome.ensures.row c.perform.ensures.mode)
    (sent_told _ _ _ _ _ _ c.reply-outcome.ensures.row c.perform.ensures.sent) in
    record {
      row = hears;
      after = holds_after_hearing _ _ _ _ (subst IsTributary c.self.view_is c.self.invariant)
          (stays_replied _ c.args.heard.now c.perform.new.mode _ c.self.invariant c.in-Sending.is
          (told_step _ _ _ _ _ c.reply-outcome.ensures.row)
          (mode_told _ _ _ _ _ _ _ c.reply-outcome.ensures.row c.perform.ensures.mode)
          (c.reply-outcome.ensures.ready c.self.invariant.ready)) hears;
    }
