-- The control station hears the reply of a terminal to which it sends: the bid continues, or the
-- next call is made.
use Rattle.std.proofs.Common.{◌≡◌, ◌≢◌, inl, inr, ℕ, ◌<◌, List, length, Option, None, Some, refl}
use Rattle.std.proofs.Common.{sym, ◌∙◌, ap, subst, arith, get_or-set_other, get_or-set_same}
use Rattle.std.proofs.lemmas.List.{length-set}
use Rattle.bsc_frame.specs.declared.message.Message.TheVariants as m
use Rattle.bsc_frame.specs.declared.message.Message.{Message}
use Rattle.bsc_frame.specs.declared.message.Heard.{Heard}
use Rattle.bsc_bid.specs.Fair.{IsFairlyHeard}
use Rattle.bsc_frame.specs.Replies.{reply_in}
use Rattle.bsc_spool.specs.Queue.{QueueValue}
use Rattle.bsc_bid.specs.Act.{Act}
use Rattle.bsc_bid.specs.Act as a
use Rattle.bsc_bid.specs.declared.alternation.Alternation.{Alternation}
use Rattle.bsc_frame.specs.declared.reply.Reply.{Reply}
use Rattle.bsc_bid.specs.declared.phase.Phase.{Phase}
use Rattle.bsc_bid.specs.declared.phase.Phase.TheVariants.{Idle, Unanswered, Held, InDoubt}
use Rattle.bsc_bid.specs.Ready.{IsGoing, IsAtRest, FitsAct}
use Rattle.bsc_bid.specs.Sender.{SenderStep, reply_step, silence_step}
use Rattle.bsc_bid.specs.Agreement.{Flight, Still, Outward, InBid, IsResting, Back, Continues}
use Rattle.bsc_bid.specs.Agreement.{sent_flight}
use Rattle.bsc_bid.specs.EachStep.{SenderAgrees, IsEnded}
use Rattle.bsc_tributary.specs.declared.mode.Mode.TheVariants.{Receiving, Sending as Sends}
use Rattle.bsc_tributary.specs.Tributary.{TributaryValue, spool_at}
use Rattle.bsc_control.specs.declared.task.Task.{Task}
use Rattle.bsc_control.specs.declared.task.Task.TheVariants.{Sending}
use Rattle.bsc_control.specs.Peer.{PeerValue, OutboundValue, no_peer, no_outbound, outbound_at}
use Rattle.bsc_control.specs.Peer.{with_outbound, outbound_after}
use Rattle.bsc_control.specs.Control.{ControlValue, ControlStep, peer_at, peer, current}
use Rattle.bsc_control.specs.CallOrder.{After, Selection}
use Rattle.bsc_control.specs.Table.{act_step, bid_step, after_bid, after_step}
use Rattle.bsc_bid.specs.declared.speaker.Speaker.TheVariants as sp
use Rattle.bsc_line_model.specs.declared.transmission.Transmission.{Transmission}
use Rattle.bsc_line_model.specs.Transmission.{sent_by}
use Rattle.bsc_line_model.specs.Line.{terminal_in}
use Rattle.bsc_line_model.specs.Together.{HasNoBid, NoBids, NoOtherBids, RestsUp, RestsDown}
use Rattle.bsc_line_model.specs.Together.{IsInBidDown, FliesDown, IsSending, InTask}
use Rattle.bsc_line_model.proofs.Stations.{same_or_not}
use Rattle.bsc_line_model.proofs.Calling.{no_bids_after_next_call}
use Rattle.bsc_line_model.specs.BidLaws.{BidLaws}
use Rattle.bsc_control.proofs.Calls.{HasPlaces, places, places_of_same_list, current_within_peers}
use Rattle.bsc_line_model.specs.Kept.{AreStations}
use Rattle.bsc_control.specs.Kept.{SuitsTask, IsInBid}

-- a bid is over if the sender is at rest
pub bid_over_at_rest : (phase : Phase) (q : QueueValue) (alternation : Alternation) (last : Reply)
    (spooled : List (List ℕ)) (f : Flight) → IsAtRest phase
    → Continues phase q alternation last spooled f → IsResting phase q spooled
bid_over_at_rest Idle q alternation last spooled f n h = h.0
bid_over_at_rest (InDoubt k) q alternation last spooled f n h = h.0
bid_over_at_rest (Unanswered b) q alternation last spooled f n h = absurd n
bid_over_at_rest (Held end x) q alternation last spooled f n h = absurd n

-- and continues if the sender is not
pub in_bid_while_going : (phase : Phase) (q : QueueValue) (alternation : Alternation) (last : Reply)
    (spooled : List (List ℕ)) (f : Flight) → IsGoing phase
    → Continues phase q alternation last spooled f → InBid phase q alternation last spooled f
in_bid_while_going Idle q alternation last spooled f n h = absurd n
in_bid_while_going (InDoubt k) q alternation last spooled f n h = absurd n
in_bid_while_going (Unanswered b) q alternation last spooled f n h = h
in_bid_while_going (Held end x) q alternation last spooled f n h = h

-- the control station after a step of the sender to selection address s, and the terminal to which
-- it sends
pub record HasActed (c : ControlValue) (ts : List TributaryValue) (s : ℕ) (step : SenderStep) : Type
    0 where
  pub there : current c < length c.peers
  pub select : s < length (peer c).outbounds
  pub others : NoOtherBids c ts (current c)
  pub mode : (terminal_in ts (current c)).mode ≡ Receiving s
  pub up : RestsUp (peer c) (terminal_in ts (current c))
  pub down : (k : ℕ) → k < length (peer c).outbounds → k ≢ s
      → RestsDown (peer c) (terminal_in ts (current c)) k
  pub continues : Continues step.sender.phase step.queue
      (terminal_in ts (current c)).receiver.alternation (terminal_in ts (current c)).receiver.last
      (spool_at (terminal_in ts (current c)).spools s).records (sent_flight step.act)
  pub ended : IsEnded step.act step.sender.phase

pub peer_is : (c : ControlValue) (s : ℕ) (step : SenderStep) → current c < length c.peers
    → peer (after_step c s step) ≡ with_outbound (peer c) s (outbound_after step)
peer_is c s step there =
    get_or-set_same c.peers (current c) (with_outbound (peer c) s (outbound_after step)) no_peer
    there

pub replaced_outbound : (p : PeerValue) (s : ℕ) (o : OutboundValue) → s < length p.outbounds
    → outbound_at (with_outbound p s o) s ≡ o
replaced_outbound p s o there = get_or-set_same p.outbounds s o no_outbound there

pub other_outbound_kept : (p : PeerValue) (s k : ℕ) (o : OutboundValue) → k ≢ s
    → outbound_at (with_outbound p s o) k ≡ outbound_at p k
other_outbound_kept p s k o differ = get_or-set_other p.outbounds s k o no_outbound differ

pub no_other_bids_after_step : (c : ControlValue) (ts : List TributaryValue) (s : ℕ) (step : SenderStep)
    → NoOtherBids c ts (current c) → NoOtherBids (after_step c s step) ts (current c)
no_other_bids_after_step c ts s step no_bids t less differ =
    subst (λ (q : PeerValue). HasNoBid q (terminal_in ts t))
    (sym (get_or-set_other c.peers (current c) t
    (with_outbound (peer c) s (outbound_after step)) no_peer differ)) (no_bids t less differ)

-- the other selection addresses rest as they did
other_selects_rest_after_step : (p : PeerValue) (s : ℕ) (o : OutboundValue) (x : TributaryValue)
    → ((k : ℕ) → k < length p.outbounds → k ≢ s → RestsDown p x k) → (k : ℕ) → k
    < length (with_outbound p s o).outbounds → k ≢ s → RestsDown (with_outbound p s o) x k
other_selects_rest_after_step p s o x down k less differ =
    let before : k < length p.outbounds = omega (arith, length-set p.outbounds s o) in
    subst (λ (z : OutboundValue). IsResting z.sender.phase z.queue (spool_at x.spools k).records)
    (sym (other_outbound_kept p s k o differ)) (down k before differ)

-- the bid continues with this message under way
bid_continues_after_step : (c : ControlValue) (ts : List TributaryValue) (s : ℕ) (step : SenderStep)
    (pending : Option Transmission) (f : Flight) → HasActed c ts s step
    → FliesDown pending (current c) f →
    InBid step.sender.phase step.queue (terminal_in ts (current c)).receiver.alternation
    (terminal_in ts (current c)).receiver.last
    (spool_at (terminal_in ts (current c)).spools s).records f →
    IsSending pending (record (after_step c s step) { task = Sending s }) ts s
bid_continues_after_step c ts s step pending f h flies bid =
    let e : ℕ = current c in
    let x : TributaryValue = terminal_in ts e in
    let o : OutboundValue = outbound_after step in
    let made : IsInBidDown pending (with_outbound (peer c) s o) e s x = record {
      mode = h.mode;
      up = h.up;
      down = other_selects_rest_after_step (peer c) s o x h.down;
      flight = f;
      flies = flies;
      bid =
          subst (λ (z : OutboundValue). InBid z.sender.phase z.queue x.receiver.alternation
          x.receiver.last (spool_at x.spools s).records f)
          (sym (replaced_outbound (peer c) s o h.select)) bid;
    } in
    record {
      others = no_other_bids_after_step c ts s step h.others;
      present =
          inl (subst (λ (q : PeerValue). IsInBidDown pending q e s x)
          (sym (peer_is c s step h.there)) made);
    }

-- the bid is over: none is in progress
no_bids_after : (c : ControlValue) (ts : List TributaryValue) (s : ℕ) (step : SenderStep)
    → HasActed c ts s step → IsAtRest step.sender.phase → NoBids (after_step c s step) ts
no_bids_after c ts s step h at_rest t less =
    elim (same_or_not t (current c)) [
      | inl same ↦
          subst (λ (n : ℕ). HasNoBid (peer_at (after_step c s step) n) (terminal_in ts n))
          (sym same)
          (subst (λ (q : PeerValue). HasNoBid q (terminal_in ts (current c)))
          (sym (peer_is c s step h.there))
          (record {
            mode = λ sends. let both : Receiving s ≡ Sends = sym h.mode ∙ sends in cc;
            up = h.up;
            down = λ k within.
                elim (same_or_not k s) [
                  | inl this ↦
                      subst (λ (n : ℕ). RestsDown (with_outbound (peer c) s (outbound_after step))
                      (terminal_in ts (current c)) n) (sym this)
                      (subst (λ (z : OutboundValue). IsResting z.sender.phase z.queue
                      (spool_at (terminal_in ts (current c)).spools s).records)
                      (sym (replaced_outbound (peer c) s (outbound_after step) h.select))
                      (bid_over_at_rest step.sender.phase step.queue _ _ _ _ at_rest h.continues))
                  | inr other ↦ other_selects_rest_after_step (peer c) s (outbound_after step)
                      (terminal_in ts (current c)) h.down k within other
                ];
          }))
      | inr differ ↦ no_other_bids_after_step c ts s step h.others t less differ
    ]

-- the poll list and the present entry are the same
pub places_after_sender_step : (c : ControlValue) (s : ℕ) (step : SenderStep) → HasPlaces c
    → HasPlaces (after_step c s step)
places_after_sender_step c s step h =
    places_of_same_list c (after_step c s step) refl refl
    (length-set c.peers (current c) (with_outbound (peer c) s (outbound_after step))) h

-- the control station acts as its sender says
pub control_acts_as_sender : (laws : BidLaws) (c : ControlValue) (ts : List TributaryValue) (s : ℕ)
    (step : SenderStep) (after : After) (act : Act) → step.act ≡ act → HasActed c ts s step
    → (act ≡ a.Quiet → (c.task ≡ Sending s) × IsGoing step.sender.phase) →
    length c.peers ≡ length ts → HasPlaces (after_step c s step) →
    InTask (act_step (after_step c s step) s act after).control.task
    (sent_by sp.Control (act_step (after_step c s step) s act after).sent)
    (act_step (after_step c s step) s act after).control ts
control_acts_as_sender laws c ts s step after (a.Send text) is h keeps count entries =
    let x : TributaryValue = terminal_in ts (current c) in
    bid_continues_after_step c ts s step (Some (record { speaker = sp.Control; message = m.Text text }))
    (Outward (m.Text text)) h refl
    (laws.goes_on step.sender.phase step.queue x.receiver.alternation x.receiver.last
    (spool_at x.spools s).records (m.Text text)
    (subst (λ (z : Act). Continues step.sender.phase step.queue x.receiver.alternation
    x.receiver.last (spool_at x.spools s).records (sent_flight z)) is h.continues))
control_acts_as_sender laws c ts s step after a.Enq is h keeps count entries =
    let x : TributaryValue = terminal_in ts (current c) in
    bid_continues_after_step c ts s step (Some (record { speaker = sp.Control; message = m.Enq })) (Outward m.Enq)
    h refl
    (laws.goes_on step.sender.phase step.queue x.receiver.alternation x.receiver.last
    (spool_at x.spools s).records m.Enq
    (subst (λ (z : Act). Continues step.sender.phase step.queue x.receiver.alternation
    x.receiver.last (spool_at x.spools s).records (sent_flight z)) is h.continues))
control_acts_as_sender laws c ts s step after a.Over is h keeps count entries =
    let d : ControlValue = after_step c s step in
    let at_rest : IsAtRest step.sender.phase =
    subst (λ (z : Act). IsEnded z step.sender.phase) is h.ended in
    let peers : length d.peers ≡ length ts =
    length-set c.peers (current c) (with_outbound (peer c) s (outbound_after step)) ∙ count in
    no_bids_after_next_call d ts after entries peers (no_bids_after c ts s step h at_rest)
control_acts_as_sender laws c ts s step after a.Quiet is h keeps count entries =
    let x : TributaryValue = terminal_in ts (current c) in
    let d : ControlValue = after_step c s step in
    let same : record d { task = Sending s } ≡ d =
    ap (λ (t : Task). record d { task = t }) (sym (keeps refl).0) in
    subst (λ (t : Task). InTask t None d ts) (sym (keeps refl).0)
    (subst (λ (k : ControlValue). IsSending None k ts s) same
    (bid_continues_after_step c ts s step None Still h refl
    (in_bid_while_going step.sender.phase step.queue x.receiver.alternation x.receiver.last
    (spool_at x.spools s).records Still (keeps refl).1
    (subst (λ (z : Act). Continues step.sender.phase step.queue x.receiver.alternation
    x.receiver.last (spool_at x.spools s).records (sent_flight z)) is h.continues))))

-- a sender that does nothing continues its bid
pub keeps_going : (act : Act) (old new : Phase) → FitsAct act old new → act ≡ a.Quiet → IsGoing old
    → IsGoing new
keeps_going act old new fits is going =
    subst IsGoing (sym (subst (λ (z : Act). FitsAct z old new) is fits)) going

-- the phase of a bid in progress
pub going_in_bid : (phase : Phase) (q : QueueValue) (alternation : Alternation) (last : Reply)
    (spooled : List (List ℕ)) (f : Flight) → InBid phase q alternation last spooled f
    → IsGoing phase
going_in_bid Idle q alternation last spooled f b = absurd b.agree
going_in_bid (InDoubt k) q alternation last spooled f b = absurd b.agree
going_in_bid (Unanswered b) q alternation last spooled f i = tt
going_in_bid (Held end x) q alternation last spooled f i = tt

-- the sender of the control station made a step in its bid: what the station then does
pub together_after_sender_step : (laws : BidLaws) (c : ControlValue) (ts : List TributaryValue) (s : ℕ)
    (pending : Option Transmission) (step : SenderStep) (after : After) → AreStations c ts → c.task
    ≡ Sending s → NoOtherBids c ts (current c)
    → IsInBidDown pending (peer c) (current c) s (terminal_in ts (current c)) →
    SenderAgrees (outbound_at (peer c) s).queue (terminal_in ts (current c)).receiver.alternation
    (terminal_in ts (current c)).receiver.last
    (spool_at (terminal_in ts (current c)).spools s).records step →
    FitsAct step.act (outbound_at (peer c) s).sender.phase step.sender.phase →
    InTask (bid_step c s step after).control.task
    (sent_by sp.Control (bid_step c s step after).sent) (bid_step c s step after).control ts
together_after_sender_step laws c ts s pending step after stations task others b agrees fits =
    let suits : IsInBid (peer c) s =
    subst (λ (t : Task). SuitsTask t (peer c)) task stations.control.orderly.suits in
    let there : current c < length c.peers = current_within_peers c (places c stations.control.entries) in
    let has : HasActed c ts s step = record {
      there = there;
      select = suits.there;
      others = others;
      mode = b.mode;
      up = b.up;
      down = b.down;
      continues = agrees.continues;
      ended = agrees.ended;
    } in
    control_acts_as_sender laws c ts s step after step.act refl has
    (λ is. (
      task,
      keeps_going step.act (outbound_at (peer c) s).sender.phase step.sender.phase
          fits is suits.going,
    )) stations.count
    (places_after_sender_step c s step (places c stations.control.entries))

-- the control station hears the terminal's reply, or noise
pub together_after_reply : (laws : BidLaws) (c : ControlValue) (ts : List TributaryValue) (s t : ℕ)
    (w : Message) (h : Heard) → AreStations c ts → c.task ≡ Sending s
    → NoOtherBids c ts (current c)
    → IsInBidDown (Some (record { speaker = sp.Terminal t; message = w })) (peer c) (current c) s
    (terminal_in ts (current c)) → IsFairlyHeard w h →
    let step : SenderStep =
    reply_step (outbound_at (peer c) s).sender (outbound_at (peer c) s).queue (reply_in h) in
    let new : ControlStep = bid_step c s step (after_bid s (reply_in h)) in
    InTask new.control.task (sent_by sp.Control new.sent) new.control ts
together_after_reply laws c ts s t w h stations task others b fair =
    let x : TributaryValue = terminal_in ts (current c) in
    let o : OutboundValue = outbound_at (peer c) s in
    let r : Reply = b.flies.1.0 in
    let bid : InBid o.sender.phase o.queue x.receiver.alternation x.receiver.last
    (spool_at x.spools s).records (Back r) =
    subst (λ (f : Flight). InBid o.sender.phase o.queue x.receiver.alternation x.receiver.last
    (spool_at x.spools s).records f) b.flies.1.2 b.bid in
    let heard : IsFairlyHeard (m.Reply r) h =
    subst (λ (v : Message). IsFairlyHeard v h) b.flies.1.1 fair in
    together_after_sender_step laws c ts s (Some (record { speaker = sp.Terminal t; message = w }))
    (reply_step o.sender o.queue (reply_in h)) (after_bid s (reply_in h)) stations task others b
    (laws.answering o.sender o.queue x.receiver.alternation x.receiver.last
    (spool_at x.spools s).records (Some r) (Some h) bid heard)
    (laws.fits.reply o.sender o.queue (reply_in h))

-- the control station acts on a silence
pub times_out_down : (laws : BidLaws) (c : ControlValue) (ts : List TributaryValue) (s : ℕ)
    → AreStations c ts → c.task ≡ Sending s → NoOtherBids c ts (current c)
    → IsInBidDown None (peer c) (current c) s (terminal_in ts (current c)) →
    let step : SenderStep =
    silence_step (outbound_at (peer c) s).sender (outbound_at (peer c) s).queue in
    let new : ControlStep = bid_step c s step (Selection s) in
    InTask new.control.task (sent_by sp.Control new.sent) new.control ts
times_out_down laws c ts s stations task others b =
    let x : TributaryValue = terminal_in ts (current c) in
    let o : OutboundValue = outbound_at (peer c) s in
    let bid : InBid o.sender.phase o.queue x.receiver.alternation x.receiver.last
    (spool_at x.spools s).records Still =
    subst (λ (f : Flight). InBid o.sender.phase o.queue x.receiver.alternation x.receiver.last
    (spool_at x.spools s).records f) b.flies b.bid in
    together_after_sender_step laws c ts s None (silence_step o.sender o.queue) (Selection s) stations task
    others b
    (laws.silence o.sender o.queue x.receiver.alternation x.receiver.last
    (spool_at x.spools s).records (laws.continues o.sender.phase o.queue x.receiver.alternation
    x.receiver.last (spool_at x.spools s).records Still bid))
    (laws.fits.silence o.sender o.queue)
