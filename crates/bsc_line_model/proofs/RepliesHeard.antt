-- The control station's reply in a poll, or its ENQ in a selection, is heard: the terminal that is
-- out of control mode acts on it, and the others do nothing.
use Rattle.std.proofs.Common.{◌≡◌, ◌⊎◌, inl, inr, ℕ, ◌<◌, Bool, true, false, List, length, Option}
use Rattle.std.proofs.Common.{None, Some, slice_set, refl, sym, ◌∙◌, ap, subst, arith}
use Rattle.std.proofs.Common.{get_or-set_other, get_or-set_same, if◌then◌else◌}
use Rattle.bsc_frame.specs.declared.message.Message.{Message}
use Rattle.bsc_frame.specs.declared.message.Message.TheVariants as m
use Rattle.bsc_frame.specs.declared.message.Heard.{Heard}
use Rattle.bsc_frame.specs.declared.message.Heard.TheVariants.{Whole, Failed, Noise}
use Rattle.bsc_spool.specs.Spool.{SpoolValue, room_asked}
use Rattle.bsc_bid.specs.declared.alternation.Alternation.{Alternation}
use Rattle.bsc_bid.specs.declared.alternation.Alternation.TheVariants.{Even}
use Rattle.bsc_frame.specs.declared.reply.Reply.{Reply}
use Rattle.bsc_frame.specs.declared.reply.Reply.TheVariants.{Ack0, Wack}
use Rattle.bsc_frame.specs.Replies.{reply_in}
use Rattle.bsc_bid.specs.Answer.{ack}
use Rattle.bsc_bid.specs.Receiver.{Rooms, replied, is_wack}
use Rattle.bsc_bid.specs.Sender.{SenderStep, reply_step}
use Rattle.bsc_bid.specs.Fair.{IsFairlyHeard}
use Rattle.bsc_bid.specs.Agreement.{Flight, Back, InBid, IsResting}
use Rattle.bsc_bid.specs.EachStep.{SenderAgrees}
use Rattle.bsc_tributary.specs.declared.mode.Mode.{Mode}
use Rattle.bsc_tributary.specs.declared.mode.Mode.TheVariants.{Control, Receiving}
use Rattle.bsc_tributary.specs.Tributary.{TributaryValue, TributaryStep, Hears, mode_step, act_step}
use Rattle.bsc_tributary.specs.Tributary.{receive_step, rooms_after, spool_at, empty_spool}
use Rattle.bsc_tributary.specs.Kept.{AfterHearing, IsNoCall}
use Rattle.bsc_control.specs.declared.task.Replied.{Replied}
use Rattle.bsc_bid.specs.declared.way.Way.{Way}
use Rattle.bsc_bid.specs.declared.way.Way.TheVariants.{FromTerminal, ToTerminal}
use Rattle.bsc_control.specs.Peer.{PeerValue, outbound_at}
use Rattle.bsc_control.specs.Control.{ControlValue, peer_at, peer, current}
use Rattle.bsc_tributary.proofs.InMode.{hear_step_no_call}
use Rattle.bsc_bid.specs.declared.speaker.Speaker.TheVariants as sp
use Rattle.bsc_line_model.specs.Transmission.{sent_by}
use Rattle.bsc_line_model.specs.Line.{terminal_in}
use Rattle.bsc_line_model.specs.Terminals.{answer_of, EachHears, EachKeeps, first_answer}
use Rattle.bsc_line_model.specs.Trust.{EachOf}
use Rattle.bsc_line_model.specs.Kept.{IsTuned, AreTuned, AreStations}
use Rattle.bsc_line_model.specs.Together.{HasNoBid, NoBids, NoOtherBids, AllInControlMode, IsFresh}
use Rattle.bsc_line_model.specs.Together.{selected, IsSelectedWith, IsSelecting, IsInBidUp, IsPolling}
use Rattle.bsc_line_model.specs.BidLaws.{BidLaws}
use Rattle.bsc_line_model.proofs.Stations.{same_or_not, receiving_into}
use Rattle.bsc_line_model.proofs.SendingDown.{others_in_control, OneHears}
use Rattle.bsc_line_model.proofs.SendingDown.{only_addressed_terminal_hears}
use Rattle.bsc_line_model.proofs.SendingUp.{keeps_going, going_in_bid}
use Rattle.bsc_line_model.proofs.ActingUp.{HasActedUp, bid_up_after_act, present_terminal_after_act}
use Rattle.bsc_line_model.proofs.CallsHeard.{no_bids_if_none_with_each}
use Rattle.bsc_bid.specs.Station.{StaysQuiet}

reply_no_call : (r : Reply) → IsNoCall (Whole (m.Reply r))
reply_no_call r = tt

pub reply_heard_whole : (r : Reply) (h : Heard) → IsFairlyHeard (m.Reply r) h → IsNoCall h
reply_heard_whole r (Whole v) (inl e) =
    subst (λ (x : Message). IsNoCall (Whole x)) (sym e) (reply_no_call r)
reply_heard_whole r (Whole v) (inr f) = absurd f
reply_heard_whole r Failed f = tt
reply_heard_whole r Noise f = tt

-- the terminal that sends has heard the reply
pub sender_up_heard_reply : (laws : BidLaws) (p : PeerValue) (e : ℕ) (r : Reply) (h : Heard)
    (x u : TributaryValue) (out : Option Message)
    → (b : IsInBidUp (Some (record { speaker = sp.Control; message = m.Reply r })) p e x)
    → b.flight ≡ Back r → IsFairlyHeard (m.Reply r) h → Hears x h u out → HasActedUp p e u out
sender_up_heard_reply laws p e r h x u out b is fair row =
    let step : SenderStep = reply_step x.sender x.queue (reply_in h) in
    let bid : InBid x.sender.phase x.queue p.receiver.alternation p.receiver.last p.spool.records
    (Back r) =
    subst (λ (f : Flight). InBid x.sender.phase x.queue p.receiver.alternation p.receiver.last
    p.spool.records f) is b.bid in
    let becomes : record { tributary = u; sent = out } ≡ act_step x step =
    row.row ∙ hear_step_no_call x h (rooms_after h u) (reply_heard_whole r h fair)
    ∙ ap (λ (n : Mode). mode_step x n h (rooms_after h u)) b.mode in
    let agrees : SenderAgrees x.queue p.receiver.alternation p.receiver.last p.spool.records step =
    laws.answering x.sender x.queue p.receiver.alternation p.receiver.last p.spool.records (Some r)
    (Some h) bid fair in
    subst (λ (o : TributaryStep). HasActedUp p e o.tributary o.sent) (sym becomes)
    (bid_up_after_act laws p e x step step.act refl
    (record { down = b.down; continues = agrees.continues; ended = agrees.ended })
    (λ quiet. inl (
      b.mode,
      keeps_going step.act x.sender.phase step.sender.phase
          (laws.fits.reply x.sender x.queue (reply_in h)) quiet
          (going_in_bid x.sender.phase x.queue p.receiver.alternation p.receiver.last p.spool.records
          (Back r) bid),
    )))

-- if only one terminal hears, and is then in control mode, all are
pub all_in_control_mode_after_one : (old : List TributaryValue) (hears : ℕ → Heard) (new : List TributaryValue)
    (addressed : Option (ℕ × Way)) (e : ℕ) (way : Way) → length new ≡ length old → addressed
    ≡ Some (e, way) → AreTuned addressed old → OneHears old hears new e → (terminal_in new e).mode
    ≡ Control → AllInControlMode new
all_in_control_mode_after_one old hears new addressed e way count is tuned one here t less =
    elim (same_or_not t e) [
      | inl same ↦ subst (λ (n : ℕ). (terminal_in new n).mode ≡ Control) (sym same) here
      | inr differ ↦
          (let before : t < length old = omega (arith, count) in
          subst (λ (y : TributaryValue). y.mode ≡ Control) (sym (one.others t before differ))
          (others_in_control addressed e t way (terminal_in old t).mode is differ
          (tuned t before)))
    ]

-- no bid with the others is in progress
pub no_other_bids_after_one_hears : (c : ControlValue) (old : List TributaryValue) (hears : ℕ → Heard)
    (new : List TributaryValue) (e : ℕ) → length new ≡ length old → OneHears old hears new e
    → NoOtherBids c old e → NoOtherBids c new e
no_other_bids_after_one_hears c old hears new e count one others t less differ =
    let before : t < length old = omega (arith, count) in
    subst (λ (y : TributaryValue). HasNoBid (peer_at c t) y) (sym (one.others t before differ))
    (others t before differ)

-- the poll continues
pub polling_replied : (laws : BidLaws) (c : ControlValue) (old : List TributaryValue)
    (addressed : Option (ℕ × Way)) (w : Message) (hears : ℕ → Heard) (new : List TributaryValue)
    (replied : Replied) → current c < length old →
    AreTuned addressed old → NoOtherBids c old (current c)
    → IsInBidUp (Some (record { speaker = sp.Control; message = w })) (peer c) (current c)
    (terminal_in old (current c)) → EachOf (length old) (λ t. IsFairlyHeard w (hears t)) →
    EachHears old hears new → EachKeeps old hears new
    → IsPolling (first_answer old hears new (length old)) c new replied
polling_replied laws c old addressed w hears new replied there tuned others b fair each keeps =
    let e : ℕ = current c in
    let x : TributaryValue = terminal_in old e in
    let u : TributaryValue = terminal_in new e in
    let out : Option Message = answer_of old hears new e in
    let r : Reply = b.flies.0 in
    let c0 : IsInBidUp (Some (record { speaker = sp.Control; message = m.Reply r })) (peer c) e
    x =
    record {
      mode = b.mode;
      down = b.down;
      flight = b.flight;
      flies = (r, refl, b.flies.2);
      bid =
          b.bid;
    } in
    let fairly : EachOf (length old) (λ t. IsFairlyHeard (m.Reply r) (hears t)) =
    λ t less. subst (λ (v : Message). IsFairlyHeard v (hears t)) b.flies.1 (fair t less) in
    let is : addressed ≡ Some (e, FromTerminal) =
    subst (λ (n : Mode). IsTuned addressed e n) b.mode (tuned e there) in
    let one : OneHears old hears new e =
    only_addressed_terminal_hears old hears new addressed e FromTerminal there is tuned
    (λ t less. reply_heard_whole r (hears t) (fairly t less)) keeps in
    let acted : HasActedUp (peer c) e u out =
    sender_up_heard_reply laws (peer c) e r (hears e) x u out c0 b.flies.2 (fairly e there)
    (each.each e there) in
    record {
      others = no_other_bids_after_one_hears c old hears new e each.count one others;
      present =
          rw (one.first) (present_terminal_after_act (peer c) e u out replied new acted
          (all_in_control_mode_after_one old hears new addressed e FromTerminal each.count is tuned one));
    }

-- a spool that is written with the records that it had
pub records_of_written_spool : (spools : List SpoolValue) (s k : ℕ) (z : SpoolValue) → s < length spools
    → z.records ≡ (spool_at spools s).records → (spool_at (slice_set spools s z) k).records
    ≡ (spool_at spools k).records
records_of_written_spool spools s k z there same =
    elim (same_or_not k s) [
      | inl this ↦ rw (this, get_or-set_same spools s z empty_spool there) same
      | inr differ ↦ ap (λ (y : SpoolValue). y.records)
          (get_or-set_other spools s k z empty_spool differ)
    ]

-- the answer to ENQ, by the last reply and whether there is room
abbrev enq_answer : TributaryValue → ℕ → Alternation → Reply → Bool → TributaryStep
enq_answer x s alternation last room =
    let spool : SpoolValue = spool_at x.spools s in
    receive_step x s (
    if is_wack last
    then replied alternation (room_asked spool room) (if room then ack alternation else Wack)
    else replied alternation spool last
    )

abbrev AnswersEnq : PeerValue → ℕ → ℕ → TributaryStep → List TributaryValue → Type 0
AnswersEnq p e s step ts = HasNoBid p step.tributary × IsFresh step.tributary s
    × IsSelectedWith (sent_by (sp.Terminal e) step.sent) true
    (selected p e s step.tributary ts)

-- no bid with a selected terminal that replied is in progress, and the terminal stays fresh
still_no_bid : (p : PeerValue) (x : TributaryValue) (s : ℕ) (z : SpoolValue) (u : TributaryValue)
    → HasNoBid p x → x.mode ≡ Receiving s → s < length x.spools → z.records
    ≡ (spool_at x.spools s).records →
    u.mode ≡ x.mode → u.sender ≡ x.sender → u.queue ≡ x.queue → u.spools ≡ slice_set x.spools s z
    → HasNoBid p u
still_no_bid p x s z u q mode there same um us uq up =
    record {
      mode = λ sends. q.mode (sym um ∙ sends);
      up = rw (us, uq) q.up;
      down =
          λ k less. rw (up)
          (subst (λ (y : List (List ℕ)). IsResting (outbound_at p k).sender.phase
          (outbound_at p k).queue y) (sym (records_of_written_spool x.spools s k z there same))
          (q.down k less));
    }

enq_terminal : (p : PeerValue) (e s : ℕ) (x : TributaryValue) (ts : List TributaryValue)
    (last : Reply) (room : Bool) → (last ≡ Ack0) ⊎ (last ≡ Wack) → HasNoBid p x → x.mode
    ≡ Receiving s → s < length x.spools → AnswersEnq p e s (enq_answer x s Even last room) ts
enq_terminal p e s x ts Ack0 room k q mode there =
    let f : IsFresh (enq_answer x s Even Ack0 room).tributary s =
    record { mode = mode; even = refl; last = inl refl } in (
      still_no_bid p x s (spool_at x.spools s) (enq_answer x s Even Ack0 room).tributary q mode
          there
          refl refl refl refl refl,
      f,
      (refl, (f, refl)),
    )
enq_terminal p e s x ts Wack true k q mode there =
    let f : IsFresh (enq_answer x s Even Wack true).tributary s =
    record { mode = mode; even = refl; last = inl refl } in (
      still_no_bid p x s (room_asked (spool_at x.spools s) true)
          (enq_answer x s Even Wack true).tributary q mode there refl refl refl refl refl,
      f,
      (refl, (f, refl)),
    )
enq_terminal p e s x ts Wack false k q mode there =
    let f : IsFresh (enq_answer x s Even Wack false).tributary s =
    record { mode = mode; even = refl; last = inr refl } in (
      still_no_bid p x s (room_asked (spool_at x.spools s) false)
          (enq_answer x s Even Wack false).tributary q mode there refl refl refl refl refl,
      f,
      (refl, (f, refl)),
    )
enq_terminal p e s x ts _ room (inl k) q mode there = absurd (cc)
enq_terminal p e s x ts _ room (inr k) q mode there = absurd (cc)

-- ENQ is heard whole or as noise
abbrev pub IsEnqHeard : Heard → Type 0
IsEnqHeard h = (h ≡ Whole m.Enq) ⊎ (h ≡ Noise)

pub enq_heard : (h : Heard) → IsFairlyHeard m.Enq h → IsEnqHeard h
enq_heard (Whole v) (inl e) = inl (ap (λ (z : Message). Whole z) e)
enq_heard (Whole v) (inr f) = absurd f
enq_heard Failed f = absurd f
enq_heard Noise f = inr refl

enq_no_call : (h : Heard) → IsEnqHeard h → IsNoCall h
enq_no_call h (inl e) = subst IsNoCall (sym e) tt
enq_no_call h (inr e) = subst IsNoCall (sym e) tt

enquired_terminal : (p : PeerValue) (e s : ℕ) (x u : TributaryValue) (h : Heard)
    (out : Option Message) (ts : List TributaryValue) → HasNoBid p x → IsFresh x s → s
    < length x.spools → Hears x h u out → AfterHearing x h u out → IsEnqHeard h
    → AnswersEnq p e s (record { tributary = u; sent = out }) ts
enquired_terminal p e s x u h out ts q f there row after (inl whole) =
    let rooms : Rooms = rooms_after h u in
    let first : record { tributary = u; sent = out }
    ≡ enq_answer x s x.receiver.alternation x.receiver.last rooms.first =
    row.row ∙ hear_step_no_call x h rooms (enq_no_call h (inl whole))
    ∙ ap (λ (z : Heard). mode_step x x.mode z rooms) whole
    ∙ ap (λ (n : Mode). mode_step x n (Whole m.Enq) rooms) f.mode in
    let even : record { tributary = u; sent = out }
    ≡ enq_answer x s Even x.receiver.last rooms.first = first
    ∙ ap (λ (z : Alternation). enq_answer x s z x.receiver.last rooms.first) f.even in
    subst (λ (o : TributaryStep). AnswersEnq p e s o ts) (sym even)
    (enq_terminal p e s x ts x.receiver.last rooms.first f.last q f.mode there)
enquired_terminal p e s x u h out ts q f there row after (inr noise) =
    let quiet : StaysQuiet x u out = after.noise noise in
    let none : out ≡ None = quiet.1 in
    rw (quiet.0, none) (q, f, tt)

-- ENQ is heard while a selection address is called
pub selecting_enquired : (c : ControlValue) (old : List TributaryValue)
    (addressed : Option (ℕ × Way)) (hears : ℕ → Heard) (new : List TributaryValue) (s : ℕ)
    → current c < length old → AreStations c old → AreTuned addressed old → NoBids c old
    → IsFresh (terminal_in old (current c)) s →
    EachOf (length old) (λ t. IsFairlyHeard m.Enq (hears t)) → EachHears old hears new
    → EachKeeps old hears new
    → IsSelecting (first_answer old hears new (length old)) c new s true
selecting_enquired c old addressed hears new s there stations tuned no_bids fresh fair each keeps =
    let e : ℕ = current c in
    let x : TributaryValue = terminal_in old e in
    let u : TributaryValue = terminal_in new e in
    let out : Option Message = answer_of old hears new e in
    let is : addressed ≡ Some (e, ToTerminal s) =
    subst (λ (n : Mode). IsTuned addressed e n) fresh.mode (tuned e there) in
    let one : OneHears old hears new e =
    only_addressed_terminal_hears old hears new addressed e (ToTerminal s) there is tuned
    (λ t less. enq_no_call (hears t) (enq_heard (hears t) (fair t less))) keeps in
    let into : s < length x.spools =
    receiving_into x.mode x.sender.phase (length x.spools) s fresh.mode
    (stations.members e there).tributary.bid in
    let answers : AnswersEnq (peer c) e s (record { tributary = u; sent = out }) new =
    enquired_terminal (peer c) e s x u (hears e) out new (no_bids e there) fresh into
    (each.each e there) (keeps e there) (enq_heard (hears e) (fair e there)) in
    record {
      no_bids =
          no_bids_if_none_with_each c new e (no_other_bids_after_one_hears c old hears new e each.count one
          (λ t less differ. no_bids t less)) answers.0;
      with_pending = rw (one.first) answers.2;
      fresh = inl answers.1;
    }
