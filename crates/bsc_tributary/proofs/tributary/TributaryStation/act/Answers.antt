-- `act` does what the table says of a silence.
use Rattle.bsc_bid.proofs.Telling.{told_step}
use Rattle.bsc_tributary.proofs.Acts.{mode_told, sent_told}
use Rattle.bsc_tributary.proofs.Hearing.{holds_after_silence, holds_after_no_act}
use Rattle.bsc_tributary.proofs.InMode.{silent_sending, no_act_on_silence_in_mode, stays_silent}
use Rattle.bsc_tributary.proofs.tributary.TributaryStation.act.Goals as goal

pub invariant_of-self : goal.invariant_of-self
invariant_of-self g c =
    stays_silent _ c.perform.new.mode _ c.self.invariant c.in-Sending.is
    (told_step _ _ _ _ _ (c.silence-outcome.ensures.row _))
    (mode_told _ _ _ _ _ _ _ (c.silence-outcome.ensures.row _) c.perform.ensures.mode)
    (c.silence-outcome.ensures.ready _ c.self.invariant.ready)

pub returns-in-Control : goal.returns-in-Control
returns-in-Control g c =
    rw c.clear.ensures (record {
      row = no_act_on_silence_in_mode _ c.args.self.now c.self.view_is c.in-Control.is;
      after = holds_after_no_act _ c.args.self.now c.self.view_is c.self.invariant;
    })

pub returns-in-Sending : goal.returns-in-Sending
returns-in-Sending g c =
    record {
      row =
          silent_sending _ c.args.self.now c.perform.new.mode _ c.perform.new.sent c.self.view_is
          c.in-Sending.is
          (told_step _ _ _ _ _ (c.silence-outcome.ensures.row _))
          (mode_told _ _ _ _ _ _ _ (c.silence-outcome.ensures.row _) c.perform.ensures.mode)
          (sent_told _ _ _ _ _ _ (c.silence-outcome.ensures.row _) c.perform.ensures.sent);
      after =
          holds_after_silence _ c.args.self.now c.perform.new.mode _ c.perform.new.sent c.self.view_is
          c.self.invariant c.in-Sending.is
          (told_step _ _ _ _ _ (c.silence-outcome.ensures.row _))
          (mode_told _ _ _ _ _ _ _ (c.silence-outcome.ensures.row _) c.perform.ensures.mode)
          (stays_silent _ c.perform.new.mode _ c.self.invariant c.in-Sending.is
          (told_step _ _ _ _ _ (c.silence-outcome.ensures.row _))
          (mode_told _ _ _ _ _ _ _ (c.silence-outcome.ensures.row _) c.perform.ensures.mode)
          (c.silence-outcome.ensures.ready _ c.self.invariant.ready));
    }
