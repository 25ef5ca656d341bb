-- The terminals hear the control station's transmission fairly, in each of its tasks.
use Rattle.std.proofs.Common.{◌≡◌, inl, inr, ℕ, ◌<◌, true, false, List, length, Option, Some}
use Rattle.std.proofs.Common.{refl, sym, ◌∙◌, ap, subst}
use Rattle.bsc_frame.specs.declared.message.Message.{Message}
use Rattle.bsc_frame.specs.declared.message.Message.TheVariants as m
use Rattle.bsc_frame.specs.declared.message.Heard.{Heard}
use Rattle.bsc_frame.specs.declared.reply.Reply.{Reply}
use Rattle.bsc_bid.specs.Agreement.{Flight, InBid}
use Rattle.bsc_tributary.specs.Tributary.{TributaryValue, spool_at}
use Rattle.bsc_control.specs.declared.task.Replied.{Replied}
use Rattle.bsc_control.specs.declared.task.Task.{Task}
use Rattle.bsc_control.specs.declared.task.Task.TheVariants.{AtRest, Selecting, Sending, Polling}
use Rattle.bsc_bid.specs.declared.way.Way.{Way}
use Rattle.bsc_control.specs.Peer.{OutboundValue, outbound_at}
use Rattle.bsc_control.specs.Control.{ControlValue, terminals, peer, current}
use Rattle.bsc_control.specs.Table.{select_address}
use Rattle.bsc_bid.specs.declared.speaker.Speaker.TheVariants as sp
use Rattle.bsc_line_model.specs.Line.{terminal_in}
use Rattle.bsc_line_model.specs.Terminals.{EachHears, EachKeeps, first_answer}
use Rattle.bsc_line_model.specs.Trust.{EachOf, IsHeardFairly, IsAddressedAfter, is_call}
use Rattle.bsc_bid.specs.Fair.{IsFairlyHeard}
use Rattle.bsc_line_model.specs.Kept.{AreTuned, AreStations}
use Rattle.bsc_line_model.specs.Together.{IsBidMessage, IsPolling, InTask}
use Rattle.bsc_line_model.specs.BidLaws.{BidLaws}
use Rattle.bsc_line_model.proofs.Stations.{current_terminal_there}
use Rattle.bsc_line_model.proofs.Tuning.{NamesOwn, each_fairly}
use Rattle.bsc_line_model.proofs.SendingDown.{bid_down_continues}
use Rattle.bsc_line_model.proofs.UnheardBids.{text_unheard, selecting_unheard, polling_unheard}
use Rattle.bsc_line_model.proofs.CallsHeard.{selecting_heard}
use Rattle.bsc_line_model.proofs.CallsMissed.{selecting_missed, polling_missed}
use Rattle.bsc_line_model.proofs.CallsHeard.{polling_heard, no_bids_if_none_with_each}
use Rattle.bsc_line_model.proofs.RepliesHeard.{polling_replied, selecting_enquired}

bid_no_call : (w : Message) → IsBidMessage w → is_call w ≡ false
bid_no_call (m.Call z) (inl b) = absurd b
bid_no_call (m.Call z) (inr b) = absurd (cc)
bid_no_call m.Eot b = refl
bid_no_call (m.Text z) b = refl
bid_no_call m.Enq b = refl
bid_no_call (m.Reply r) b = refl

pub reply_is_no_call : (r : Reply) → is_call (m.Reply r) ≡ false
reply_is_no_call r = refl

-- The terminals hear the control station: they and their answer fit together with it.
pub together_after_hearing_control : (names : NamesOwn) (laws : BidLaws) (c : ControlValue) (old : List TributaryValue)
    (before after : Option (ℕ × Way)) (w : Message) (hears : ℕ → Heard) (new : List TributaryValue)
    → AreStations c old → AreTuned before old →
    InTask c.task (Some (record { speaker = sp.Control; message = w })) c old
    → IsHeardFairly w (length old) hears
    → IsAddressedAfter (terminals c) (length old) hears before after → EachHears old hears new
    → EachKeeps old hears new →
    InTask c.task (first_answer old hears new (length old)) c new
together_after_hearing_control names laws c old before after w hears new stations tuned together fair addressed each
    keeps = by_task c.task refl together
  where
    there : current c < length old
    there = current_terminal_there c old stations

    by_task : (task : Task) → c.task ≡ task
        → InTask task (Some (record { speaker = sp.Control; message = w })) c old
        → InTask task (first_answer old hears new (length old)) c new
    by_task AtRest is k = absurd (k.silent refl)
    by_task (Selecting s true) is k =
        let enq : IsHeardFairly m.Enq (length old) hears =
        subst (λ (v : Message). IsHeardFairly v (length old) hears) k.with_pending fair in
        elim k.fresh [
          | inl fresh ↦ selecting_enquired c old before hears new s there stations tuned k.no_bids
              fresh enq each keeps
          | inr modes ↦ selecting_unheard c old s hears new k.no_bids modes enq each keeps
        ]
    by_task (Selecting s false) is k =
        elim (subst (λ (v : Message). IsHeardFairly v (length old) hears) k.with_pending fair) [
          | inl all ↦
              selecting_heard names c old hears new after s false there stations is k.no_bids
              all (addressed.called (select_address (peer c).terminal s) all) each
          | inr missed ↦ selecting_missed c old hears new s stations k.no_bids missed each keeps
        ]
    by_task (Sending s) is k =
        elim k.present [
          | inl b ↦
              (let x : TributaryValue = terminal_in old (current c) in
              let o : OutboundValue = outbound_at (peer c) s in
              let bid : IsBidMessage w =
              laws.outward o.sender.phase o.queue x.receiver.alternation x.receiver.last
              (spool_at x.spools s).records w
              (subst (λ (f : Flight). InBid o.sender.phase o.queue x.receiver.alternation
              x.receiver.last (spool_at x.spools s).records f) b.flies b.bid) in
              bid_down_continues laws c old before s w hears new there stations tuned k.others b
              (each_fairly w (length old) hears (bid_no_call w bid) fair) each keeps)
          | inr left ↦
              text_unheard c old s w hears new there left.unheard.1 k.others left.modes
              left.rests
              (each_fairly w (length old) hears (bid_no_call w left.unheard.1) fair) each keeps
        ]
    by_task (Polling replied) is k =
        elim k.present [
          | inl q ↦
              elim q.1 [
                | inl call ↦
                    (let no_bids = no_bids_if_none_with_each c old (current c) k.others q.0 in
                    elim (subst (λ (v : Message). IsHeardFairly v (length old) hears) call.0 fair) [
                      | inl all ↦
                          subst (λ (r : Replied). IsPolling
                          (first_answer old hears new (length old)) c new r) (sym call.1)
                          (polling_heard names laws c old hears new after there stations
                          (is ∙ ap (λ (r : Replied). Polling r) call.1) no_bids all
                          (addressed.called (peer c).terminal.poll all) each)
                      | inr missed ↦ polling_missed c old hears new replied there stations no_bids
                          missed each keeps
                    ])
                | inr reply ↦
                    polling_unheard c old reply.0 hears new replied there k.others q.0 reply.2
                    (subst (λ (v : Message). EachOf (length old) (λ t. IsFairlyHeard v (hears t)))
                    reply.1
                    (each_fairly w (length old) hears
                    (ap is_call reply.1 ∙ reply_is_no_call reply.0) fair)) each keeps
              ]
          | inr b ↦
              (let reply : w ≡ m.Reply b.flies.0 = b.flies.1 in
              let never : is_call w ≡ false = ap is_call reply ∙ reply_is_no_call b.flies.0 in
              polling_replied laws c old before w hears new replied there tuned k.others b
              (each_fairly w (length old) hears never fair) each keeps)
        ]
