-- The control station's text or ENQ is heard: the terminal to which it is sent receives, and the
-- others do nothing.
use Rattle.std.proofs.Common.{◌≡◌, ◌≢◌, ◌⊎◌, inl, inr, ℕ, zero, suc, ◌+◌, ◌<◌, ◌≤◌, List, length}
use Rattle.std.proofs.Common.{Option, None, Some, option_map, slice_set, refl, sym, ◌∙◌, ap, subst}
use Rattle.std.proofs.Common.{arith, get_or-set_same}
use Rattle.bsc_frame.specs.declared.message.Message.{Message}
use Rattle.bsc_frame.specs.declared.message.Message.TheVariants as m
use Rattle.bsc_frame.specs.declared.message.Heard.{Heard}
use Rattle.bsc_frame.specs.declared.message.Heard.TheVariants.{Whole, Failed, Noise}
use Rattle.bsc_spool.specs.Spool.{SpoolValue}
use Rattle.bsc_frame.specs.declared.reply.Reply.{Reply}
use Rattle.bsc_bid.specs.Receiver.{ReceiverStep, Rooms, heard_step}
use Rattle.bsc_bid.specs.Fair.{IsFairlyHeard, IsCallCutShort}
use Rattle.bsc_bid.specs.Agreement.{Flight, Outward, InBid, IsResting, reply_flight}
use Rattle.bsc_bid.specs.EachStep.{ReceiverAgrees}
use Rattle.bsc_tributary.specs.declared.mode.Mode.{Mode}
use Rattle.bsc_tributary.specs.declared.mode.Mode.TheVariants.{Control, Receiving, Sending}
use Rattle.bsc_tributary.specs.Tributary.{TributaryValue, TributaryStep, Hears, mode_step}
use Rattle.bsc_tributary.specs.Tributary.{receive_step, rooms_after, spool_at, empty_spool}
use Rattle.bsc_tributary.specs.Kept.{AfterHearing, IsNoCall}
use Rattle.bsc_bid.specs.declared.way.Way.{Way}
use Rattle.bsc_bid.specs.declared.way.Way.TheVariants.{ToTerminal}
use Rattle.bsc_control.specs.Peer.{PeerValue, outbound_at}
use Rattle.bsc_control.specs.Control.{ControlValue, peer_at, peer, current}
use Rattle.bsc_tributary.proofs.InMode.{hear_step_no_call}
use Rattle.bsc_bid.specs.declared.speaker.Speaker.TheVariants as sp
use Rattle.bsc_line_model.specs.declared.transmission.Transmission.{Transmission}
use Rattle.bsc_line_model.specs.Transmission.{sent_by}
use Rattle.bsc_line_model.specs.Line.{terminal_in}
use Rattle.bsc_line_model.specs.Terminals.{answer_of, EachHears, EachKeeps, or_first, first_answer}
use Rattle.bsc_line_model.specs.Trust.{EachOf}
use Rattle.bsc_line_model.specs.Kept.{IsTuned, AreTuned, AreStations}
use Rattle.bsc_line_model.specs.Together.{HasNoBid, NoOtherBids, IsInBidDown, IsBidMessage, FliesDown, IsSending}
use Rattle.bsc_line_model.specs.BidLaws.{BidLaws}
use Rattle.bsc_line_model.proofs.Stations.{receiving_into}

-- a text or ENQ is not cut short
pub never_cut : (w v : Message) → IsBidMessage w → IsCallCutShort w v → ⊥
never_cut (m.Call z) v (inl b) f = b
never_cut (m.Call z) v (inr b) f = absurd (cc)
never_cut m.Eot v b f = f
never_cut (m.Text z) v b f = f
never_cut m.Enq v b f = f
never_cut (m.Reply r) v b f = f

-- and is heard neither as a call nor as EOT
pub bid_message_is_no_call : (w : Message) → IsBidMessage w → IsNoCall (Whole w)
bid_message_is_no_call (m.Text z) b = tt
bid_message_is_no_call m.Enq b = tt
bid_message_is_no_call (m.Call z) (inl b) = absurd b
bid_message_is_no_call (m.Call z) (inr b) = absurd (cc)
bid_message_is_no_call m.Eot (inl b) = absurd b
bid_message_is_no_call m.Eot (inr b) = absurd (cc)
bid_message_is_no_call (m.Reply r) b = tt

pub no_call_heard : (w : Message) (h : Heard) → IsBidMessage w → IsFairlyHeard w h → IsNoCall h
no_call_heard w (Whole v) b (inl e) =
    subst (λ (x : Message). IsNoCall (Whole x)) (sym e) (bid_message_is_no_call w b)
no_call_heard w (Whole v) b (inr f) = absurd (never_cut w v b f)
no_call_heard w Failed b f = tt
no_call_heard w Noise b f = tt

abbrev pub place_of : Option (ℕ × Way) → ℕ
place_of None = 0
place_of (Some a) = a.0

-- the addressed channel is that of one terminal
pub one_terminal_of_address : (addressed : Option (ℕ × Way)) (t u : ℕ) (way other : Way) → addressed
    ≡ Some (t, way) → addressed ≡ Some (u, other) → t ≡ u
one_terminal_of_address addressed t u way other a b = ap place_of (sym a ∙ b)

-- any terminal but the addressed one is in control mode
pub others_in_control : (addressed : Option (ℕ × Way)) (e t : ℕ) (way : Way) (mode : Mode)
    → addressed ≡ Some (e, way) → t ≢ e → IsTuned addressed t mode → mode ≡ Control
others_in_control addressed e t way Control is differ k = refl
others_in_control addressed e t way (Receiving s) is differ k =
    absurd (differ (ap place_of (sym k ∙ is)))
others_in_control addressed e t way Sending is differ k = absurd (differ (ap place_of (sym k ∙ is)))

-- if no other terminal answers, the first answer is that of one terminal
pub no_answer_before_terminal : (old : List TributaryValue) (hears : ℕ → Heard) (new : List TributaryValue)
    (e n : ℕ) → n ≤ e → ((k : ℕ) → k < n → k ≢ e → answer_of old hears new k ≡ None)
    → first_answer old hears new n ≡ None
no_answer_before_terminal old hears new e zero less f = refl
no_answer_before_terminal old hears new e (suc n) less f =
    let differ : n ≢ e = omega arith in
    rw (
      no_answer_before_terminal old hears new e n (omega arith) (λ k l ne. f k (omega arith) ne),
      f n (omega arith) differ,
    ) refl

same_or_before : (e n : ℕ) → e < n + 1 → (e ≡ n) ⊎ (e < n)
same_or_before e n less = grind (arith)

pub first_answer_of_one : (e n : ℕ) (out : Option Message) → or_first (sent_by (sp.Terminal e) out) None
    ≡ sent_by (sp.Terminal e) out
first_answer_of_one e n None = refl
first_answer_of_one e n (Some w) = refl

pub first_answer_is : (old : List TributaryValue) (hears : ℕ → Heard) (new : List TributaryValue)
    (e n : ℕ) → e < n → ((k : ℕ) → k < n → k ≢ e → answer_of old hears new k ≡ None)
    → first_answer old hears new n ≡ sent_by (sp.Terminal e) (answer_of old hears new e)
first_answer_is old hears new e zero less f = absurd (omega arith)
first_answer_is old hears new e (suc n) less f =
    elim (same_or_before e n (omega arith)) [
      | inl same ↦
          rw (no_answer_before_terminal old hears new e n (omega arith) (λ k l ne. f k (omega arith) ne), ← same)
          refl
      | inr before ↦
          (let differ : n ≢ e = omega arith in
          rw (
            first_answer_is old hears new e n before (λ k l ne. f k (omega arith) ne),
            f n (omega arith) differ,
          ) (first_answer_of_one e n (answer_of old hears new e)))
    ]

-- a terminal in control mode does nothing with such a message
pub control_mode_stays : (t : TributaryValue) (h : Heard) (u : TributaryValue)
    (out : Option Message)
    → AfterHearing t h u out → t.mode ≡ Control → IsNoCall h → (u ≡ t) × (out ≡ None)
control_mode_stays t h u out after mode never = after.control mode never

-- what happens to the terminals while only terminal e is out of control mode
pub record OneHears (old : List TributaryValue) (hears : ℕ → Heard) (new : List TributaryValue)
    (e : ℕ) : Type 0 where
  pub others : (t : ℕ) → t < length old → t ≢ e → terminal_in new t ≡ terminal_in old t
  pub first : first_answer old hears new (length old)
      ≡ sent_by (sp.Terminal e) (answer_of old hears new e)

pub only_addressed_terminal_hears : (old : List TributaryValue) (hears : ℕ → Heard) (new : List TributaryValue)
    (addressed : Option (ℕ × Way)) (e : ℕ) (way : Way) → e < length old → addressed ≡ Some (e, way)
    → AreTuned addressed old →
    EachOf (length old) (λ t. IsNoCall (hears t)) → EachKeeps old hears new
    → OneHears old hears new e
only_addressed_terminal_hears old hears new addressed e way there is tuned never keeps =
    let quiet : (t : ℕ) → t < length old → t ≢ e → (terminal_in new t ≡ terminal_in old t)
    × (answer_of old hears new t ≡ None) =
    λ t less differ. control_mode_stays (terminal_in old t) (hears t) (terminal_in new t)
    (answer_of old hears new t) (keeps t less)
    (others_in_control addressed e t way (terminal_in old t).mode is differ (tuned t less))
    (never t less) in
    record {
      others = λ t less differ. (quiet t less differ).0;
      first =
          first_answer_is old hears new e (length old) there
          (λ t less differ. (quiet t less differ).1);
    }

-- the reply is pending
reply_flies : (e : ℕ) (reply : Option Reply)
    → FliesDown (sent_by (sp.Terminal e) (option_map m.Reply reply)) e (reply_flight reply)
reply_flies e None = refl
reply_flies e (Some r) = (refl, (r, refl, refl))

-- the terminal to which it is sent has heard it
pub receiver_down_heard_text : (laws : BidLaws) (p : PeerValue) (e s : ℕ) (w : Message) (h : Heard)
    (t u : TributaryValue) (out : Option Message) → s < length t.spools →
    IsInBidDown (Some (record { speaker = sp.Control; message = w })) p e s t → IsBidMessage w
    → IsFairlyHeard w h → Hears t h u out → AfterHearing t h u out →
    IsInBidDown (sent_by (sp.Terminal e) out) p e s u
receiver_down_heard_text laws p e s w h t u out there b bid fair x after =
    let spool : SpoolValue = spool_at t.spools s in
    let rooms : Rooms = rooms_after h u in
    let r : ReceiverStep = heard_step t.receiver spool h t.urgent rooms in
    let row : record { tributary = u; sent = out } ≡ receive_step t s r =
    x.row ∙ hear_step_no_call t h rooms (no_call_heard w h bid fair)
    ∙ ap (λ (n : Mode). mode_step t n h rooms) b.mode in
    let flying : InBid (outbound_at p s).sender.phase (outbound_at p s).queue t.receiver.alternation
    t.receiver.last spool.records (Outward w) =
    subst (λ (f : Flight). InBid (outbound_at p s).sender.phase (outbound_at p s).queue
    t.receiver.alternation t.receiver.last spool.records f) b.flies b.bid in
    let agrees : ReceiverAgrees (outbound_at p s).sender.phase (outbound_at p s).queue spool.records
    r =
    laws.hearing (outbound_at p s).sender.phase (outbound_at p s).queue t.receiver spool w (Some h)
    t.urgent rooms flying fair in
    let stored : spool_at (slice_set t.spools s r.spool) s ≡ r.spool =
    get_or-set_same t.spools s r.spool empty_spool there in
    let becomes : u ≡ (receive_step t s r).tributary =
    ap (λ (o : TributaryStep). o.tributary) row in
    let made : IsInBidDown (sent_by (sp.Terminal e) (option_map m.Reply r.reply)) p e s
    (receive_step t s r).tributary = record {
      mode = b.mode;
      up = b.up;
      down = λ k less differ.
          let moved : u.mode ≢ Receiving k =
          λ same. differ (let e1 : Receiving s ≡ Receiving k = sym b.mode
          ∙ sym (ap (λ (v : TributaryValue). v.mode) becomes) ∙ same in
          sym (let e2 : s ≡ k = cc in e2)) in
          let same : spool_at (receive_step t s r).tributary.spools k ≡ spool_at t.spools k =
          ap (λ (v : TributaryValue). spool_at v.spools k) (sym becomes)
          ∙ after.other_spools k moved in
          subst (λ (z : SpoolValue). IsResting (outbound_at p k).sender.phase
          (outbound_at p k).queue z.records) (sym same) (b.down k less differ);
      flight = reply_flight r.reply;
      flies = reply_flies e r.reply;
      bid =
          subst (λ (z : SpoolValue). InBid (outbound_at p s).sender.phase (outbound_at p s).queue
          r.receiver.alternation r.receiver.last z.records (reply_flight r.reply)) (sym stored)
          agrees.bid;
    } in
    subst (λ (o : TributaryStep). IsInBidDown (sent_by (sp.Terminal e) o.sent) p e s o.tributary)
    (sym row) made

-- the control station continues to send
pub bid_down_continues : (laws : BidLaws) (c : ControlValue) (old : List TributaryValue)
    (addressed : Option (ℕ × Way)) (s : ℕ) (w : Message) (hears : ℕ → Heard)
    (new : List TributaryValue) → current c < length old →
    AreStations c old → AreTuned addressed old
    → NoOtherBids c old (current c)
    → IsInBidDown (Some (record { speaker = sp.Control; message = w })) (peer c) (current c) s
    (terminal_in old (current c)) → EachOf (length old) (λ t. IsFairlyHeard w (hears t)) →
    EachHears old hears new → EachKeeps old hears new
    → IsSending (first_answer old hears new (length old)) c new s
bid_down_continues laws c old addressed s w hears new there stations tuned others b fair each keeps =
    let e : ℕ = current c in
    let x : TributaryValue = terminal_in old e in
    let bid : IsBidMessage w =
    laws.outward (outbound_at (peer c) s).sender.phase (outbound_at (peer c) s).queue
    x.receiver.alternation x.receiver.last (spool_at x.spools s).records w
    (subst (λ (f : Flight). InBid (outbound_at (peer c) s).sender.phase
    (outbound_at (peer c) s).queue x.receiver.alternation x.receiver.last
    (spool_at x.spools s).records f) b.flies b.bid) in
    let is : addressed ≡ Some (e, ToTerminal s) =
    subst (λ (n : Mode). IsTuned addressed e n) b.mode (tuned e there) in
    let one : OneHears old hears new e =
    only_addressed_terminal_hears old hears new addressed e (ToTerminal s) there is tuned
    (λ t less. no_call_heard w (hears t) bid (fair t less)) keeps in
    let into : s < length x.spools =
    receiving_into x.mode x.sender.phase (length x.spools) s b.mode
    (stations.members e there).tributary.bid in
    record {
      others = λ t less differ.
          let before : t < length old = omega (arith, each.count) in
          subst (λ (y : TributaryValue). HasNoBid (peer_at c t) y)
          (sym (one.others t before differ))
          (others t before differ);
      present =
          inl (subst (λ (q : Option Transmission). IsInBidDown q (peer c) e s (terminal_in new e))
          (sym one.first)
          (receiver_down_heard_text laws (peer c) e s w (hears e) x (terminal_in new e)
          (answer_of old hears new e) into b bid (fair e there) (each.each e there)
          (keeps e there)));
    }
