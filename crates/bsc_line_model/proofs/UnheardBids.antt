-- The control station sends to a terminal that began again: nobody hears it, and its sender asks
-- until it gives up.
use Rattle.std.proofs.Common.{◌≡◌, ◌⊎◌, inl, inr, ℕ, ◌<◌, List, length, Option, None, Some, refl}
use Rattle.std.proofs.Common.{sym, ◌∙◌, ap, subst, arith, true}
use Rattle.std.proofs.lemmas.List.{length-set}
use Rattle.bsc_frame.specs.declared.message.Message.{Message}
use Rattle.bsc_frame.specs.declared.message.Message.TheVariants as m
use Rattle.bsc_frame.specs.declared.message.Heard.{Heard}
use Rattle.bsc_bid.specs.Act.{Act}
use Rattle.bsc_bid.specs.Act as a
use Rattle.bsc_bid.specs.Agreement.{IsResting}
use Rattle.bsc_bid.specs.Sender.{SenderStep, silence_step}
use Rattle.bsc_bid.specs.Fair.{IsFairlyHeard}
use Rattle.bsc_tributary.specs.declared.mode.Mode.TheVariants.{Control, Receiving, Sending as Sends}
use Rattle.bsc_tributary.specs.Tributary.{TributaryValue, spool_at}
use Rattle.bsc_tributary.specs.Kept.{IsNoCall}
use Rattle.bsc_control.specs.declared.task.Task.{Task}
use Rattle.bsc_control.specs.declared.task.Task.TheVariants.{Sending}
use Rattle.bsc_control.specs.Peer.{PeerValue, OutboundValue, outbound_at, with_outbound}
use Rattle.bsc_control.specs.Peer.{outbound_after}
use Rattle.bsc_control.specs.Control.{ControlValue, ControlStep, peer_at, peer, current}
use Rattle.bsc_control.specs.CallOrder.{After, Selection}
use Rattle.bsc_control.specs.Kept.{SuitsTask, IsInBid}
use Rattle.bsc_control.specs.Table.{act_step, bid_step, after_step}
use Rattle.bsc_control.proofs.Calls.{HasPlaces, places, current_within_peers}
use Rattle.bsc_bid.specs.declared.speaker.Speaker.TheVariants as sp
use Rattle.bsc_line_model.specs.declared.transmission.Transmission.{Transmission}
use Rattle.bsc_line_model.specs.Transmission.{sent_by}
use Rattle.bsc_line_model.specs.Line.{terminal_in}
use Rattle.bsc_line_model.specs.Terminals.{answer_of, EachHears, EachKeeps, first_answer}
use Rattle.bsc_line_model.specs.Trust.{EachOf}
use Rattle.bsc_line_model.specs.Kept.{AreStations}
use Rattle.bsc_line_model.specs.BidLaws.{BidLaws}
use Rattle.bsc_line_model.specs.Together.{HasNoBid, NoBids, NoOtherBids, Rests, RestsDown}
use Rattle.bsc_line_model.specs.Together.{AllInControlMode, IsBidMessage, IsUnheard}
use Rattle.bsc_line_model.specs.Together.{IsInBidDown, IsLeftByReceiver, IsSelecting, IsSending, IsPolling}
use Rattle.bsc_line_model.specs.Together.{InTask}
use Rattle.bsc_line_model.proofs.RepliesHeard.{reply_heard_whole}
use Rattle.bsc_frame.specs.declared.reply.Reply.{Reply}
use Rattle.bsc_control.specs.declared.task.Replied.{Replied}
use Rattle.bsc_line_model.proofs.Stations.{same_or_not, current_terminal_there}
use Rattle.bsc_line_model.proofs.Calling.{no_bids_after_next_call}
use Rattle.bsc_line_model.proofs.SendingDown.{control_mode_stays, no_call_heard}
use Rattle.bsc_line_model.proofs.SendingUp.{peer_is, replaced_outbound, other_outbound_kept}
use Rattle.bsc_line_model.proofs.SendingUp.{no_other_bids_after_step, places_after_sender_step}
use Rattle.bsc_line_model.proofs.CallsMissed.{nobody_answers}
use Rattle.bsc_line_model.proofs.CallsHeard.{no_bids_if_none_with_each}

-- all terminals are in control mode, and nobody acts on what is sent
pub record NobodyHears (old : List TributaryValue) (hears : ℕ → Heard) (new : List TributaryValue)
    : Type 0 where
  pub same : (t : ℕ) → t < length old → terminal_in new t ≡ terminal_in old t
  pub first : first_answer old hears new (length old) ≡ None

pub nobody_hears : (old : List TributaryValue) (hears : ℕ → Heard) (new : List TributaryValue)
    → AllInControlMode old → EachOf (length old) (λ t. IsNoCall (hears t))
    → EachKeeps old hears new → NobodyHears old hears new
nobody_hears old hears new modes never keeps =
    let quiet : (t : ℕ) → t < length old → (terminal_in new t ≡ terminal_in old t)
    × (answer_of old hears new t ≡ None) =
    λ t less. control_mode_stays (terminal_in old t) (hears t) (terminal_in new t)
    (answer_of old hears new t) (keeps t less) (modes t less) (never t less) in
    record {
      same = λ t less. (quiet t less).0;
      first = nobody_answers old hears new (length old) (λ t less. (quiet t less).1);
    }

-- so all stay in control mode, and no bid begins
pub modes_unheard : (old : List TributaryValue) (hears : ℕ → Heard) (new : List TributaryValue)
    → length new ≡ length old → NobodyHears old hears new → AllInControlMode old
    → AllInControlMode new
modes_unheard old hears new count nobody modes t less =
    let before : t < length old = omega (arith, count) in
    subst (λ (y : TributaryValue). y.mode ≡ Control) (sym (nobody.same t before)) (modes t before)

pub no_bids_unheard : (c : ControlValue) (old : List TributaryValue) (hears : ℕ → Heard)
    (new : List TributaryValue) → length new ≡ length old → NobodyHears old hears new
    → NoBids c old → NoBids c new
no_bids_unheard c old hears new count nobody no_bids t less =
    let before : t < length old = omega (arith, count) in
    subst (λ (y : TributaryValue). HasNoBid (peer_at c t) y) (sym (nobody.same t before))
    (no_bids t before)

pub no_other_bids_unheard : (c : ControlValue) (old : List TributaryValue) (hears : ℕ → Heard)
    (new : List TributaryValue) → length new ≡ length old → NobodyHears old hears new
    → NoOtherBids c old (current c) → NoOtherBids c new (current c)
no_other_bids_unheard c old hears new count nobody others t less differ =
    let before : t < length old = omega (arith, count) in
    subst (λ (y : TributaryValue). HasNoBid (peer_at c t) y) (sym (nobody.same t before))
    (others t before differ)

-- the text or ENQ of the control station is heard by nobody
pub text_unheard : (c : ControlValue) (old : List TributaryValue) (s : ℕ) (w : Message)
    (hears : ℕ → Heard) (new : List TributaryValue) → current c < length old → IsBidMessage w
    → NoOtherBids c old (current c) → AllInControlMode old
    → Rests (peer c) (terminal_in old (current c))
    → EachOf (length old) (λ t. IsFairlyHeard w (hears t)) → EachHears old hears new
    → EachKeeps old hears new → IsSending (first_answer old hears new (length old)) c new s
text_unheard c old s w hears new there bid others modes rests fair each keeps =
    let nobody : NobodyHears old hears new =
    nobody_hears old hears new modes (λ t less. no_call_heard w (hears t) bid (fair t less))
    keeps in
    record {
      others = no_other_bids_unheard c old hears new each.count nobody others;
      present = inr (record {
        modes = modes_unheard old hears new each.count nobody modes;
        rests =
            subst (λ (y : TributaryValue). Rests (peer c) y) (sym (nobody.same (current c) there))
            rests;
        unheard = rw (nobody.first) tt;
      });
    }

-- ENQ to a terminal that began again since it was selected is heard by nobody
pub selecting_unheard : (c : ControlValue) (old : List TributaryValue) (s : ℕ)
    (hears : ℕ → Heard) (new : List TributaryValue) → NoBids c old → AllInControlMode old
    → EachOf (length old) (λ t. IsFairlyHeard m.Enq (hears t)) → EachHears old hears new
    → EachKeeps old hears new → IsSelecting (first_answer old hears new (length old)) c new s true
selecting_unheard c old s hears new no_bids modes fair each keeps =
    let nobody : NobodyHears old hears new =
    nobody_hears old hears new modes
    (λ t less. no_call_heard m.Enq (hears t) (inr refl) (fair t less)) keeps in
    record {
      no_bids = no_bids_unheard c old hears new each.count nobody no_bids;
      with_pending = rw (nobody.first) tt;
      fresh = inr (modes_unheard old hears new each.count nobody modes);
    }

-- the reply to a terminal that began again is heard by nobody
pub polling_unheard : (c : ControlValue) (old : List TributaryValue) (r : Reply)
    (hears : ℕ → Heard) (new : List TributaryValue) (replied : Replied) → current c < length old
    → NoOtherBids c old (current c) → HasNoBid (peer c) (terminal_in old (current c))
    → AllInControlMode old → EachOf (length old) (λ t. IsFairlyHeard (m.Reply r) (hears t))
    → EachHears old hears new → EachKeeps old hears new
    → IsPolling (first_answer old hears new (length old)) c new replied
polling_unheard c old r hears new replied there others none modes fair each keeps =
    let nobody : NobodyHears old hears new =
    nobody_hears old hears new modes
    (λ t less. reply_heard_whole r (hears t) (fair t less)) keeps in
    record {
      others = no_other_bids_unheard c old hears new each.count nobody others;
      present = inl (
        subst (λ (y : TributaryValue). HasNoBid (peer c) y) (sym (nobody.same (current c) there))
            none,
        rw (nobody.first) tt,
      );
    }

-- the channels rest after a step of the sender to this selection address
pub rests_after_step : (p : PeerValue) (s : ℕ) (o : OutboundValue) (x : TributaryValue) → s
    < length p.outbounds → Rests p x
    → IsResting o.sender.phase o.queue (spool_at x.spools s).records → Rests (with_outbound p s o) x
rests_after_step p s o x there rests rest =
    record {
      up = rests.up;
      down = λ k less.
          elim (same_or_not k s) [
            | inl same ↦
                subst (λ (j : ℕ). RestsDown (with_outbound p s o) x j) (sym same)
                (subst (λ (z : OutboundValue). IsResting z.sender.phase z.queue
                (spool_at x.spools s).records) (sym (replaced_outbound p s o there)) rest)
            | inr differ ↦
                (let before : k < length p.outbounds = omega (arith, length-set p.outbounds s o) in
                subst (λ (z : OutboundValue). IsResting z.sender.phase z.queue
                (spool_at x.spools k).records) (sym (other_outbound_kept p s k o differ))
                (rests.down k before))
          ];
    }

-- the control station's sender made a step, and the terminal takes no part in the bid
record ActsUnheard (c : ControlValue) (ts : List TributaryValue) (s : ℕ) (step : SenderStep) : Type 0
  where
    there : current c < length c.peers
    select : s < length (peer c).outbounds
    others : NoOtherBids c ts (current c)
    modes : AllInControlMode ts
    rests : Rests (peer c) (terminal_in ts (current c))
    rest : IsResting step.sender.phase step.queue
        (spool_at (terminal_in ts (current c)).spools s).records

rests_unheard : (c : ControlValue) (ts : List TributaryValue) (s : ℕ) (step : SenderStep)
    → ActsUnheard c ts s step → Rests (peer (after_step c s step)) (terminal_in ts (current c))
rests_unheard c ts s step h =
    subst (λ (q : PeerValue). Rests q (terminal_in ts (current c)))
    (sym (peer_is c s step h.there))
    (rests_after_step (peer c) s (outbound_after step) (terminal_in ts (current c)) h.select h.rests
    h.rest)

sends_unheard : (c : ControlValue) (ts : List TributaryValue) (s : ℕ) (step : SenderStep)
    (pending : Option Transmission) → ActsUnheard c ts s step → IsUnheard pending
    → IsSending pending (record (after_step c s step) { task = Sending s }) ts s
sends_unheard c ts s step pending h unheard =
    record {
      others = no_other_bids_after_step c ts s step h.others;
      present =
          inr (record { modes = h.modes; rests = rests_unheard c ts s step h; unheard = unheard });
    }

no_bids_after_unheard : (c : ControlValue) (ts : List TributaryValue) (s : ℕ) (step : SenderStep)
    → current c < length ts → ActsUnheard c ts s step → NoBids (after_step c s step) ts
no_bids_after_unheard c ts s step within h =
    let rests : Rests (peer (after_step c s step)) (terminal_in ts (current c)) =
    rests_unheard c ts s step h in
    no_bids_if_none_with_each (after_step c s step) ts (current c)
    (no_other_bids_after_step c ts s step h.others)
    (record {
      mode = λ sends. let both : Control ≡ Sends = sym (h.modes (current c) within) ∙ sends in cc;
      up = rests.up;
      down = rests.down;
    })

acts_unheard : (c : ControlValue) (ts : List TributaryValue) (s : ℕ) (step : SenderStep)
    (after : After) (act : Act) → ActsUnheard c ts s step → c.task ≡ Sending s → AreStations c ts
    → HasPlaces (after_step c s step) →
    InTask (act_step (after_step c s step) s act after).control.task
    (sent_by sp.Control (act_step (after_step c s step) s act after).sent)
    (act_step (after_step c s step) s act after).control ts
acts_unheard c ts s step after (a.Send text) h task stations entries =
    sends_unheard c ts s step (Some (record { speaker = sp.Control; message = m.Text text })) h
    (refl, inl tt)
acts_unheard c ts s step after a.Enq h task stations entries =
    sends_unheard c ts s step (Some (record { speaker = sp.Control; message = m.Enq })) h
    (refl, inr refl)
acts_unheard c ts s step after a.Over h task stations entries =
    let d : ControlValue = after_step c s step in
    let peers : length d.peers ≡ length ts =
    length-set c.peers (current c) (with_outbound (peer c) s (outbound_after step))
    ∙ stations.count in
    no_bids_after_next_call d ts after entries peers
    (no_bids_after_unheard c ts s step (current_terminal_there c ts stations) h)
acts_unheard c ts s step after a.Quiet h task stations entries =
    let d : ControlValue = after_step c s step in
    let same : record d { task = Sending s } ≡ d =
    ap (λ (t : Task). record d { task = t }) (sym task) in
    subst (λ (t : Task). InTask t None d ts) (sym task)
    (subst (λ (k : ControlValue). IsSending None k ts s) same
    (sends_unheard c ts s step None h tt))

-- the terminal to which the control station sends does not send
pub never_sends_in_bid_down : (pending : Option Transmission) (c : ControlValue)
    (ts : List TributaryValue) (s : ℕ)
    → IsInBidDown pending (peer c) (current c) s (terminal_in ts (current c))
    ⊎ IsLeftByReceiver pending (peer c) (terminal_in ts (current c)) ts
    → (terminal_in ts (current c)).mode ≡ Sends → current c < length ts → ⊥
never_sends_in_bid_down pending c ts s (inl b) sends there =
    let both : Receiving s ≡ Sends = sym b.mode ∙ sends in cc
never_sends_in_bid_down pending c ts s (inr left) sends there =
    let both : Control ≡ Sends = sym (left.modes (current c) there) ∙ sends in cc

-- an answer to the control station that sends belongs to its bid
pub bid_of_answering_terminal : (c : ControlValue) (ts : List TributaryValue) (from : ℕ) (w : Message)
    (s : ℕ) → IsSending (Some (record { speaker = sp.Terminal from; message = w })) c ts s →
    IsInBidDown (Some (record { speaker = sp.Terminal from; message = w })) (peer c) (current c) s
    (terminal_in ts (current c))
bid_of_answering_terminal c ts from w s k =
    elim k.present [
      | inl b ↦ b
      | inr left ↦ (let no : sp.Terminal from ≡ sp.Control = left.unheard.0 in absurd (cc))
    ]

-- a silence: the control station asks again, or gives up
pub times_out_unheard : (laws : BidLaws) (c : ControlValue) (ts : List TributaryValue) (s : ℕ)
    → AreStations c ts → c.task ≡ Sending s → NoOtherBids c ts (current c)
    → IsLeftByReceiver None (peer c) (terminal_in ts (current c)) ts →
    let step : SenderStep =
    silence_step (outbound_at (peer c) s).sender (outbound_at (peer c) s).queue in
    let new : ControlStep = bid_step c s step (Selection s) in
    InTask new.control.task (sent_by sp.Control new.sent) new.control ts
times_out_unheard laws c ts s stations task others left =
    let o : OutboundValue = outbound_at (peer c) s in
    let step : SenderStep = silence_step o.sender o.queue in
    let x : TributaryValue = terminal_in ts (current c) in
    let suits : IsInBid (peer c) s =
    subst (λ (t : Task). SuitsTask t (peer c)) task stations.control.orderly.suits in
    let unheard : ActsUnheard c ts s step = record {
      there = current_within_peers c (places c stations.control.entries);
      select = suits.there;
      others = others;
      modes = left.modes;
      rests = left.rests;
      rest =
          laws.silence_at_rest o.sender o.queue (spool_at x.spools s).records
          (left.rests.down s suits.there);
    } in
    acts_unheard c ts s step (Selection s) step.act unheard task stations
    (places_after_sender_step c s step (places c stations.control.entries))
