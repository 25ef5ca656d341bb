-- The control station hears what a terminal sends, in each of its tasks.
use Rattle.std.proofs.Common.{◌≡◌, ◌⊎◌, inl, inr, ℕ, ◌+◌, ◌<◌, Bool, true, false, nat_lt, List}
use Rattle.std.proofs.Common.{length, Option, None, Some, option_map, refl, sym, ◌∙◌, ap, subst}
use Rattle.std.proofs.Common.{get_or-set_other, get_or-set_same, if◌then◌else◌}
use Rattle.bsc_frame.specs.declared.message.Message.{Message}
use Rattle.bsc_frame.specs.declared.message.Message.TheVariants as m
use Rattle.bsc_frame.specs.declared.message.Heard.{Heard}
use Rattle.bsc_frame.specs.declared.message.Heard.TheVariants.{Whole, Failed, Noise}
use Rattle.bsc_bid.specs.declared.alternation.Alternation.{Alternation}
use Rattle.bsc_bid.specs.declared.alternation.Alternation.TheVariants.{Even}
use Rattle.bsc_frame.specs.declared.reply.Reply.{Reply}
use Rattle.bsc_frame.specs.declared.reply.Reply.TheVariants.{Ack0, Nak, Wack}
use Rattle.bsc_bid.specs.declared.phase.Phase.{Phase}
use Rattle.bsc_bid.specs.declared.phase.Phase.TheVariants.{Idle}
use Rattle.bsc_frame.specs.Replies.{reply_in}
use Rattle.bsc_bid.specs.Receiver.{ReceiverStep, Rooms, heard_step, sends_interrupt}
use Rattle.bsc_bid.specs.Sender.{SenderStep, begin_step}
use Rattle.bsc_bid.specs.Fair.{IsFairlyHeard}
use Rattle.bsc_bid.specs.Agreement.{Flight, Still, Outward, InBid, IsResting, Continues}
use Rattle.bsc_bid.specs.Agreement.{reply_flight, sent_flight}
use Rattle.bsc_bid.specs.EachStep.{SenderAgrees, ReceiverAgrees}
use Rattle.bsc_tributary.specs.Tributary.{TributaryValue, spool_at}
use Rattle.bsc_tributary.specs.Kept.{IsNoCall}
use Rattle.bsc_control.specs.declared.task.Replied.{Replied}
use Rattle.bsc_control.specs.declared.task.Task.{Task}
use Rattle.bsc_control.specs.declared.task.Task.TheVariants.{AtRest, Selecting, Sending, Polling}
use Rattle.bsc_control.specs.Peer.{PeerValue, OutboundValue, no_peer, outbound_at}
use Rattle.bsc_control.specs.Control.{ControlValue, ControlStep, peer, current, with_current}
use Rattle.bsc_control.specs.CallOrder.{After, Selection, Poll}
use Rattle.bsc_control.specs.Kept.{IsSelected, SuitsTask, AfterHearing}
use Rattle.bsc_control.specs.Table.{Hears, next_call_step, bid_step, selecting_step, polling_step}
use Rattle.bsc_control.specs.Table.{task_step, receive_step, is_interrupted, replied_after}
use Rattle.bsc_control.specs.Table.{rooms_after}
use Rattle.bsc_bid.specs.declared.speaker.Speaker.TheVariants as sp
use Rattle.bsc_line_model.specs.declared.transmission.Transmission.{Transmission}
use Rattle.bsc_line_model.specs.Transmission.{sent_by}
use Rattle.bsc_line_model.specs.Line.{terminal_in}
use Rattle.bsc_line_model.specs.Kept.{AreStations}
use Rattle.bsc_line_model.specs.Together.{HasNoBid, NoBids, NoOtherBids, IsFresh, IsAnswer}
use Rattle.bsc_line_model.specs.Together.{IsSelecting, IsSending, IsPolling, IsBidMessage, IsInBidUp}
use Rattle.bsc_line_model.specs.Together.{FliesUp, InTask}
use Rattle.bsc_line_model.specs.BidLaws.{BidLaws}
use Rattle.bsc_control.proofs.Calls.{places, current_within_peers}
use Rattle.bsc_line_model.proofs.Stations.{current_terminal_there}
use Rattle.bsc_line_model.proofs.Calling.{no_bids_after_next_call}
use Rattle.bsc_line_model.proofs.SendingDown.{no_call_heard}
use Rattle.bsc_line_model.proofs.SendingUp.{HasActed, control_acts_as_sender}
use Rattle.bsc_line_model.proofs.SendingUp.{places_after_sender_step}
use Rattle.bsc_line_model.proofs.SendingUp.{together_after_reply}
use Rattle.bsc_line_model.proofs.CallsHeard.{no_bids_if_none_with_each}
use Rattle.bsc_bid.proofs.Fitting.{begin_not_quiet}

-- the pending transmission is lost
lost_selecting : (c : ControlValue) (ts : List TributaryValue) (pending : Option Transmission)
    (s : ℕ) (enquired : Bool) → IsSelecting pending c ts s enquired
    → IsSelecting None c ts s enquired
lost_selecting c ts pending s enquired h =
    record { no_bids = h.no_bids; with_pending = tt; fresh = h.fresh }

lost_sending : (laws : BidLaws) (c : ControlValue) (ts : List TributaryValue)
    (pending : Option Transmission) (s : ℕ) → IsSending pending c ts s → IsSending None c ts s
lost_sending laws c ts pending s h =
    record {
      others = h.others;
      present = elim h.present [
        | inl b ↦
            (let x : TributaryValue = terminal_in ts (current c) in
            let o : OutboundValue = outbound_at (peer c) s in
            inl (record {
              mode = b.mode;
              up = b.up;
              down = b.down;
              flight = Still;
              flies = refl;
              bid =
                  laws.loss o.sender.phase o.queue x.receiver.alternation x.receiver.last
                  (spool_at x.spools s).records b.flight b.bid;
            }))
        | inr left ↦ inr (record { modes = left.modes; rests = left.rests; unheard = tt })
      ];
    }

lost_polling : (laws : BidLaws) (c : ControlValue) (ts : List TributaryValue)
    (pending : Option Transmission) (replied : Replied) → IsPolling pending c ts replied
    → IsPolling None c ts replied
lost_polling laws c ts pending replied h =
    record {
      others = h.others;
      present = elim h.present [
        | inl q ↦ inl (q.0, tt)
        | inr b ↦
            (let x : TributaryValue = terminal_in ts (current c) in
            inr (record {
              mode = b.mode;
              down = b.down;
              flight = Still;
              flies = refl;
              bid =
                  laws.loss x.sender.phase x.queue (peer c).receiver.alternation
                  (peer c).receiver.last (peer c).spool.records b.flight b.bid;
            }))
      ];
    }

pub task_stays_without_pending : (laws : BidLaws) (task : Task) (c : ControlValue) (ts : List TributaryValue)
    (pending : Option Transmission) → InTask task pending c ts → InTask task None c ts
task_stays_without_pending laws AtRest c ts pending h = record { silent = λ none. cc; rests = h.rests }
task_stays_without_pending laws (Selecting s enquired) c ts pending h = lost_selecting c ts pending s enquired h
task_stays_without_pending laws (Sending s) c ts pending h = lost_sending laws c ts pending s h
task_stays_without_pending laws (Polling replied) c ts pending h = lost_polling laws c ts pending replied h

-- the next call is made while no bid is in progress
pub together_after_next_call : (c : ControlValue) (ts : List TributaryValue) (after : After) → AreStations c ts
    → NoBids c ts
    → InTask (next_call_step c after).control.task
    (sent_by sp.Control (next_call_step c after).sent) (next_call_step c after).control ts
together_after_next_call c ts after stations all =
    no_bids_after_next_call c ts after (places c stations.control.entries) stations.count all

-- the selected terminal is ready: a bid begins
pub bid_down_begins : (laws : BidLaws) (c : ControlValue) (ts : List TributaryValue) (s : ℕ)
    (enquired : Bool) → AreStations c ts → c.task ≡ Selecting s enquired → NoBids c ts
    → IsFresh (terminal_in ts (current c)) s → (terminal_in ts (current c)).receiver.last ≡ Ack0 →
    let new : ControlStep =
    bid_step c s (begin_step (outbound_at (peer c) s).sender (outbound_at (peer c) s).queue)
    (Selection s) in
    InTask new.control.task (sent_by sp.Control new.sent) new.control ts
bid_down_begins laws c ts s enquired stations task all fresh last =
    let e : ℕ = current c in
    let x : TributaryValue = terminal_in ts e in
    let o : OutboundValue = outbound_at (peer c) s in
    let step : SenderStep = begin_step o.sender o.queue in
    let suits : IsSelected (peer c) s =
    subst (λ (t : Task). SuitsTask t (peer c)) task stations.control.orderly.suits in
    let there : current c < length c.peers = current_within_peers c (places c stations.control.entries) in
    let within : current c < length ts = current_terminal_there c ts stations in
    let this : HasNoBid (peer c) x = all e within in
    let spooled : List (List ℕ) = (spool_at x.spools s).records in
    let rest : IsResting Idle o.queue spooled =
    subst (λ (k : Phase). IsResting k o.queue spooled) suits.idle (this.down s suits.there) in
    let agrees : SenderAgrees o.queue Even Ack0 spooled step =
    laws.begin o.sender o.queue spooled rest suits.some in
    let has : HasActed c ts s step = record {
      there = there;
      select = suits.there;
      others = λ t less differ. all t less;
      mode = fresh.mode;
      up = this.up;
      down = λ k less differ. this.down k less;
      continues =
          subst (λ (r : Reply). Continues step.sender.phase step.queue x.receiver.alternation r
          spooled (sent_flight step.act)) (sym last)
          (subst (λ (p : Alternation). Continues step.sender.phase step.queue p Ack0 spooled
          (sent_flight step.act)) (sym fresh.even) agrees.continues);
      ended = agrees.ended;
    } in
    control_acts_as_sender laws c ts s step (Selection s) step.act refl has
    (λ is. absurd (begin_not_quiet o.sender o.queue is)) stations.count
    (places_after_sender_step c s step (places c stations.control.entries))

-- the terminal asks to wait: ENQ is sent, or after too many WACKs the next call
asks_again : (c : ControlValue) (ts : List TributaryValue) (s : ℕ) (over : Bool) → AreStations c ts
    → NoBids c ts → IsFresh (terminal_in ts (current c)) s →
    let new : ControlStep =
    if over then next_call_step c (Selection s)
    else record {
      control =
          record c { task = Selecting s true; failures = 0; wacks = c.wacks + 1 };
      sent =
          Some m.Enq;
    } in
    InTask new.control.task (sent_by sp.Control new.sent) new.control ts
asks_again c ts s true stations all fresh = together_after_next_call c ts (Selection s) stations all
asks_again c ts s false stations all fresh =
    record { no_bids = all; with_pending = refl; fresh = inl fresh }

-- a selection is answered
pub selecting_answered : (laws : BidLaws) (c : ControlValue) (ts : List TributaryValue) (s t : ℕ)
    (w : Message) (enquired : Bool) → AreStations c ts → c.task ≡ Selecting s enquired
    → IsSelecting (Some (record { speaker = sp.Terminal t; message = w })) c ts s enquired →
    InTask (selecting_step c s (reply_in (Whole w))).control.task
    (sent_by sp.Control (selecting_step c s (reply_in (Whole w))).sent)
    (selecting_step c s (reply_in (Whole w))).control ts
selecting_answered laws c ts s t (m.Reply Ack0) enquired stations task h =
    bid_down_begins laws c ts s enquired stations task h.no_bids h.with_pending.1.0 h.with_pending.1.1
selecting_answered laws c ts s t (m.Reply Nak) enquired stations task h =
    together_after_next_call c ts (Selection s) stations h.no_bids
selecting_answered laws c ts s t (m.Reply Wack) enquired stations task h =
    asks_again c ts s (nat_lt c.setup.waits (c.wacks + 1)) stations h.no_bids h.with_pending.1.0
selecting_answered laws c ts s t _ enquired stations task h = absurd h.with_pending.1

-- in a poll, a transmission other than EOT goes to the receiver
pub receiver_step_in_poll : (c : ControlValue) (replied : Replied) (h : Heard) (rooms : Rooms) → IsNoCall h
    → polling_step c replied h rooms ≡ receive_step c replied
    (heard_step (peer c).receiver (peer c).spool h (peer c).urgent rooms)
receiver_step_in_poll c replied Failed rooms k = refl
receiver_step_in_poll c replied Noise rooms k = refl
receiver_step_in_poll c replied (Whole m.Eot) rooms k = absurd k
receiver_step_in_poll c replied (Whole (m.Call z)) rooms k = absurd k
receiver_step_in_poll c replied (Whole (m.Text b)) rooms k = refl
receiver_step_in_poll c replied (Whole m.Enq) rooms k = refl
receiver_step_in_poll c replied (Whole (m.Reply r)) rooms k = refl

reply_flies_up : (e : ℕ) (reply : Option Reply)
    → FliesUp (sent_by sp.Control (option_map m.Reply reply)) e (reply_flight reply)
reply_flies_up e None = refl
reply_flies_up e (Some r) = (r, refl, refl)

-- the polled terminal's text or ENQ is received
pub polling_received : (laws : BidLaws) (c : ControlValue) (ts : List TributaryValue) (t : ℕ)
    (w : Message) (h : Heard) (rooms : Rooms) (replied : Replied) → AreStations c ts
    → NoOtherBids c ts (current c) →
    IsInBidUp (Some (record { speaker = sp.Terminal t; message = w })) (peer c) (current c)
    (terminal_in ts (current c)) → IsFairlyHeard w h →
    InTask (polling_step c replied h rooms).control.task
    (sent_by sp.Control (polling_step c replied h rooms).sent)
    (polling_step c replied h rooms).control ts
polling_received laws c ts t w h rooms replied stations others b fair =
    let e : ℕ = current c in
    let p : PeerValue = peer c in
    let x : TributaryValue = terminal_in ts e in
    let step : ReceiverStep = heard_step p.receiver p.spool h p.urgent rooms in
    let q : PeerValue =
    record p {
      receiver = step.receiver;
      spool = step.spool;
      urgent =
          if sends_interrupt step.reply then false else p.urgent;
    } in
    let flying : InBid x.sender.phase x.queue p.receiver.alternation p.receiver.last p.spool.records
    (Outward w) =
    subst (λ (f : Flight). InBid x.sender.phase x.queue p.receiver.alternation p.receiver.last
    p.spool.records f) b.flies.1 b.bid in
    let bid : IsBidMessage w =
    laws.outward x.sender.phase x.queue p.receiver.alternation p.receiver.last p.spool.records w
    flying in
    let agrees : ReceiverAgrees x.sender.phase x.queue p.spool.records step =
    laws.hearing x.sender.phase x.queue p.receiver p.spool w (Some h) p.urgent rooms flying
    fair in
    let there : current c < length c.peers = current_within_peers c (places c stations.control.entries) in
    let peer_is : peer (with_current c q) ≡ q = get_or-set_same c.peers e q no_peer there in
    let made : IsInBidUp (sent_by sp.Control (option_map m.Reply step.reply)) q e x =
    record {
      mode = b.mode;
      down = b.down;
      flight = reply_flight step.reply;
      flies =
          reply_flies_up e step.reply;
      bid = agrees.bid;
    } in
    let polls : IsPolling (sent_by sp.Control (receive_step c replied step).sent)
    (receive_step c replied step).control ts (replied_after replied step.reply) = record {
      others =
          λ k less differ. subst (λ (z : PeerValue). HasNoBid z (terminal_in ts k))
          (sym (get_or-set_other c.peers e k q no_peer differ)) (others k less differ);
      present =
          inr (subst (λ (z : PeerValue). IsInBidUp
          (sent_by sp.Control (option_map m.Reply step.reply)) z e x) (sym peer_is) made);
    } in
    subst (λ (o : ControlStep). InTask o.control.task (sent_by sp.Control o.sent) o.control ts)
    (sym (receiver_step_in_poll c replied h rooms (no_call_heard w h bid fair))) polls

-- a whole EOT ends the poll
pub polling_ended : (c : ControlValue) (ts : List TributaryValue) (rooms : Rooms)
    (replied : Replied) → AreStations c ts → NoBids c ts →
    InTask (polling_step c replied (Whole m.Eot) rooms).control.task
    (sent_by sp.Control (polling_step c replied (Whole m.Eot) rooms).sent)
    (polling_step c replied (Whole m.Eot) rooms).control ts
polling_ended c ts rooms replied stations all = together_after_next_call c ts (Poll (is_interrupted replied)) stations all

-- the control station after the step fits together with the terminals
abbrev pub StepsTo : ControlStep → List TributaryValue → Type 0
StepsTo o ts = InTask o.control.task (sent_by sp.Control o.sent) o.control ts

-- EOT is heard whole or as noise
eot_whole_or_noise : (h : Heard) → IsFairlyHeard m.Eot h → (h ≡ Whole m.Eot) ⊎ (h ≡ Noise)
eot_whole_or_noise (Whole v) (inl e) = inl (ap (λ (z : Message). Whole z) e)
eot_whole_or_noise (Whole v) (inr f) = absurd f
eot_whole_or_noise Failed f = absurd f
eot_whole_or_noise Noise f = inr refl

-- a terminal's answer to a selection is heard whole or as noise
answer_whole_or_noise : (w : Message) (x : TributaryValue) (s : ℕ) (ts : List TributaryValue) (h : Heard)
    → IsAnswer w x s ts → IsFairlyHeard w h → (h ≡ Whole w) ⊎ (h ≡ Noise)
answer_whole_or_noise w x s ts Noise k f = inr refl
answer_whole_or_noise w x s ts (Whole v) k (inl e) = inl (ap (λ (z : Message). Whole z) e)
answer_whole_or_noise (m.Reply Ack0) x s ts (Whole v) k (inr f) = absurd f
answer_whole_or_noise (m.Reply Nak) x s ts (Whole v) k (inr f) = absurd f
answer_whole_or_noise (m.Reply Wack) x s ts (Whole v) k (inr f) = absurd f
answer_whole_or_noise _ x s ts (Whole v) k (inr f) = absurd k
answer_whole_or_noise (m.Reply Ack0) x s ts Failed k f = absurd f
answer_whole_or_noise (m.Reply Nak) x s ts Failed k f = absurd f
answer_whole_or_noise (m.Reply Wack) x s ts Failed k f = absurd f
answer_whole_or_noise _ x s ts Failed k f = absurd k

-- The control station hears a terminal: it and its answer fit together with the terminals.
pub together_after_hearing_terminal : (laws : BidLaws) (c d : ControlValue) (ts : List TributaryValue) (t : ℕ)
    (w : Message) (h : Heard) (out : Option Message) → AreStations c ts
    → InTask c.task (Some (record { speaker = sp.Terminal t; message = w })) c ts
    → IsFairlyHeard w h →
    Hears c h d out → AfterHearing c h d out → InTask d.task (sent_by sp.Control out) d ts
together_after_hearing_terminal laws c d ts t w h out stations together fair row after = by_task c.task refl together
  where
    noise : h ≡ Noise → InTask d.task (sent_by sp.Control out) d ts
    noise e =
        let same : (d ≡ c) × (out ≡ None) = after.noise e in
        subst (λ (o : Option Message). InTask d.task (sent_by sp.Control o) d ts) (sym same.1)
        (subst (λ (k : ControlValue). InTask k.task None k ts) (sym same.0)
        (task_stays_without_pending laws c.task c ts (Some (record { speaker = sp.Terminal t; message = w }))
        together))

    by_row : (task : Task) → c.task ≡ task → StepsTo (task_step c task h (rooms_after c h d)) ts
        → InTask d.task (sent_by sp.Control out) d ts
    by_row task is steps =
        let step : record { control = d; sent = out } ≡ task_step c task h (rooms_after c h d) =
        row.row ∙ ap (λ (k : Task). task_step c k h (rooms_after c h d)) is in
        subst (λ (o : ControlStep). StepsTo o ts) (sym step) steps

    by_task : (task : Task) → c.task ≡ task
        → InTask task (Some (record { speaker = sp.Terminal t; message = w })) c ts
        → InTask d.task (sent_by sp.Control out) d ts
    by_task AtRest is k =
        by_row AtRest is (subst (λ (z : Task). InTask z None c ts) (sym is)
        (task_stays_without_pending laws AtRest c ts
        (Some (record { speaker = sp.Terminal t; message = w })) k))
    by_task (Selecting s enquired) is k =
        elim (answer_whole_or_noise w (terminal_in ts (current c)) s ts h k.with_pending.1 fair) [
          | inl whole ↦
              by_row (Selecting s enquired) is
              (subst (λ (z : Heard). StepsTo (selecting_step c s (reply_in z)) ts) (sym whole)
              (selecting_answered laws c ts s t w enquired stations is k))
          | inr quiet ↦ noise quiet
        ]
    by_task (Sending s) is k =
        elim k.present [
          | inl b ↦ by_row (Sending s) is
              (together_after_reply laws c ts s t w h stations is k.others b fair)
          | inr left ↦ (let no : sp.Terminal t ≡ sp.Control = left.unheard.0 in absurd (cc))
        ]
    by_task (Polling replied) is k =
        elim k.present [
          | inl q ↦
              elim (eot_whole_or_noise h (subst (λ (v : Message). IsFairlyHeard v h) q.1.1 fair)) [
                | inl whole ↦
                    by_row (Polling replied) is
                    (subst (λ (z : Heard). StepsTo (polling_step c replied z (rooms_after c h d))
                    ts) (sym whole)
                    (polling_ended c ts (rooms_after c h d) replied stations
                    (no_bids_if_none_with_each c ts (current c) k.others q.0)))
                | inr quiet ↦ noise quiet
              ]
          | inr b ↦ by_row (Polling replied) is
              (polling_received laws c ts t w h (rooms_after c h d) replied stations k.others b
              fair)
        ]
