-- The control station's transmission is heard on a trusted line: records arrive on the addressed
-- channel to a terminal, or the addressed terminal learns that its records arrived; nothing else
-- moves.
use Rattle.std.proofs.Common.{◌≡◌, ◌⊎◌, inl, inr, ℕ, ◌<◌, true, false, List, length, IsTrue, Option}
use Rattle.std.proofs.Common.{None, Some, refl, sym, ◌∙◌, ap, subst, get_or-set_same}
use Rattle.bsc_frame.specs.declared.message.Message.{Message}
use Rattle.bsc_frame.specs.declared.message.Message.TheVariants as m
use Rattle.bsc_frame.specs.declared.message.Heard.{Heard}
use Rattle.bsc_frame.specs.declared.message.Heard.TheVariants.{Whole}
use Rattle.bsc_frame.specs.Texts.{TextValue}
use Rattle.bsc_spool.specs.Queue.{QueueValue}
use Rattle.bsc_spool.specs.Spool.{SpoolValue}
use Rattle.bsc_bid.specs.declared.phase.Phase.{Phase}
use Rattle.bsc_frame.specs.declared.reply.Reply.{Reply}
use Rattle.bsc_frame.specs.Replies.{reply_in}
use Rattle.bsc_bid.specs.Receiver.{ReceiverStep, Rooms, heard_step}
use Rattle.bsc_bid.specs.Sender.{reply_step}
use Rattle.bsc_bid.specs.Channel.{Channel, channel}
use Rattle.bsc_bid.specs.Fair.{IsFairlyHeard, IsCallCutShort}
use Rattle.bsc_bid.specs.Agreement.{Flight, Outward, Back, InBid}
use Rattle.bsc_bid.specs.OneBid.{MovesAtReceiver, MovesAtSender}
use Rattle.bsc_bid.specs.EachStep.{ReceiverAgrees, SenderAgrees}
use Rattle.bsc_tributary.specs.declared.mode.Mode.{Mode}
use Rattle.bsc_tributary.specs.declared.mode.Mode.TheVariants.{Control, Receiving, Sending as Sends}
use Rattle.bsc_tributary.specs.Tributary.{TributaryValue, TributaryStep, Hears, mode_step}
use Rattle.bsc_tributary.specs.Tributary.{receive_step, rooms_after, spool_at, empty_spool}
use Rattle.bsc_tributary.specs.Kept.{IsNoCall, Stores}
use Rattle.bsc_control.specs.declared.task.Task.{Task}
use Rattle.bsc_control.specs.declared.task.Task.TheVariants.{AtRest, Selecting, Sending, Polling}
use Rattle.bsc_bid.specs.declared.way.Way.{Way}
use Rattle.bsc_bid.specs.declared.way.Way.TheVariants.{FromTerminal, ToTerminal}
use Rattle.bsc_control.specs.Peer.{PeerValue, OutboundValue, outbound_at}
use Rattle.bsc_control.specs.Control.{ControlValue, peer_at, peer, current}
use Rattle.bsc_control.specs.Kept.{outbound_of}
use Rattle.bsc_control.specs.Table.{select_address}
use Rattle.bsc_tributary.proofs.InMode.{hear_step_no_call}
use Rattle.bsc_bid.specs.declared.speaker.Speaker.TheVariants as sp
use Rattle.bsc_line_model.specs.declared.transmission.Transmission.{Transmission}
use Rattle.bsc_line_model.specs.Line.{LineValue, terminal_in, terminal_at, terminal_count}
use Rattle.bsc_line_model.specs.Line.{channel_of}
use Rattle.bsc_line_model.specs.Terminals.{answer_of}
use Rattle.bsc_line_model.specs.Trust.{IsMissed, IsHeardFairly, is_call}
use Rattle.bsc_line_model.specs.Carries.{IsCarriedDown}
use Rattle.bsc_line_model.specs.Kept.{IsTuned, IsLine}
use Rattle.bsc_line_model.specs.Together.{AllInControlMode, IsInBidDown, InTask}
use Rattle.bsc_line_model.proofs.Stations.{current_terminal_there}
use Rattle.bsc_line_model.specs.BidLaws.{BidLaws}
use Rattle.bsc_control.proofs.Calls.{places, current_within_peers}
use Rattle.bsc_line_model.proofs.Tuning.{each_fairly}
use Rattle.bsc_line_model.proofs.SendingDown.{one_terminal_of_address}
use Rattle.bsc_line_model.proofs.AllHear.{reply_is_no_call}
use Rattle.bsc_line_model.proofs.QueueSteps.{LearnsUp, terminal_queue}
use Rattle.bsc_line_model.proofs.Holding.{IsBidOf, bid_of_sending_terminal}
use Rattle.bsc_line_model.proofs.Moving.{MovesIfAddressed, EachMoves}
use Rattle.bsc_bid.proofs.Answering.{no_reply}
use Rattle.bsc_line_model.proofs.Stations.{receiving_into}

-- a text that is heard fairly was sent
not_cut_to_text : (w : Message) (t : TextValue) → IsCallCutShort w (m.Text t) → ⊥
not_cut_to_text (m.Call z) t f = f
not_cut_to_text m.Eot t f = f
not_cut_to_text (m.Text z) t f = f
not_cut_to_text m.Enq t f = f
not_cut_to_text (m.Reply r) t f = f

pub text_sent : (w : Message) (h : Heard) (t : TextValue) → h ≡ Whole (m.Text t) → IsFairlyHeard w h
    → w ≡ m.Text t
text_sent w h t is fair = by_case (subst (λ (g : Heard). IsFairlyHeard w g) is fair)
  where
    by_case : (m.Text t ≡ w) ⊎ IsCallCutShort w (m.Text t) → w ≡ m.Text t
    by_case (inl e) = sym e
    by_case (inr f) = absurd (not_cut_to_text w t f)

pub text_sent_down : (w : Message) (n : ℕ) (hears : ℕ → Heard) (k : ℕ) (t : TextValue) → k < n
    → hears k ≡ Whole (m.Text t) → IsHeardFairly w n hears → w ≡ m.Text t
text_sent_down (m.Call z) n hears k t less is (inl all) = let there : hears k ≡ Whole (m.Call z) =
    all k less in absurd (cc)
text_sent_down (m.Call z) n hears k t less is (inr missed) =
    absurd (subst IsMissed is (missed k less))
text_sent_down m.Eot n hears k t less is fair = text_sent m.Eot (hears k) t is (fair k less)
text_sent_down (m.Text z) n hears k t less is fair =
    text_sent (m.Text z) (hears k) t is (fair k less)
text_sent_down m.Enq n hears k t less is fair = text_sent m.Enq (hears k) t is (fair k less)
text_sent_down (m.Reply r) n hears k t less is fair = text_sent (m.Reply r) (hears k) t is (fair k less)

-- the text is sent in a bid to the present terminal
pub record IsBidTo (pending : Option Transmission) (c : ControlValue)
    (ts : List TributaryValue) : Type 0 where
  pub select : ℕ
  pub bid : IsInBidDown pending (peer c) (current c) select (terminal_in ts (current c))

bid_of_pending_text : (task : Task) (t : TextValue) (c : ControlValue) (ts : List TributaryValue)
    → (AllInControlMode ts → ⊥)
    → InTask task (Some (record { speaker = sp.Control; message = m.Text t })) c ts
    → IsBidTo (Some (record { speaker = sp.Control; message = m.Text t })) c ts
bid_of_pending_text AtRest t c ts out k = absurd (k.silent refl)
bid_of_pending_text (Selecting s true) t c ts out k =
    let no : m.Text t ≡ m.Enq = k.with_pending in absurd (cc)
bid_of_pending_text (Selecting s false) t c ts out k = let no : m.Text t
    ≡ m.Call (select_address (peer c).terminal s) = k.with_pending in absurd (cc)
bid_of_pending_text (Sending s) t c ts out k =
    elim k.present [
      | inl b ↦ record { select = s; bid = b }
      | inr left ↦ absurd (out left.modes)
    ]
bid_of_pending_text (Polling replied) t c ts out k =
    elim k.present [
      | inl q ↦
          elim q.1 [
            | inl call ↦ (let no : m.Text t ≡ m.Call (peer c).terminal.poll = call.0 in absurd (cc))
            | inr reply ↦ absurd (no_reply (m.Text t) reply.0 refl reply.1)
          ]
      | inr b ↦ absurd (no_reply (m.Text t) b.flies.0 refl b.flies.1)
    ]

-- the terminal to which it is sent hears it, or noise
text_down_lands : (laws : BidLaws) (p : PeerValue) (e s : ℕ) (w : Message) (h : Heard)
    (x u : TributaryValue) (out : Option Message) → s < length x.spools →
    IsInBidDown (Some (record { speaker = sp.Control; message = w })) p e s x → IsNoCall h
    → IsFairlyHeard w h → Hears x h u out →
    MovesAtReceiver (outbound_at p s).sender.phase
    (channel (outbound_at p s).queue (spool_at x.spools s).records)
    (channel (outbound_at p s).queue (spool_at u.spools s).records)
text_down_lands laws p e s w h x u out there b never fair row =
    let spool : SpoolValue = spool_at x.spools s in
    let rooms : Rooms = rooms_after h u in
    let r : ReceiverStep = heard_step x.receiver spool h x.urgent rooms in
    let o : OutboundValue = outbound_at p s in
    let becomes : record { tributary = u; sent = out } ≡ receive_step x s r =
    row.row ∙ hear_step_no_call x h rooms never ∙ ap (λ (n : Mode). mode_step x n h rooms) b.mode in
    let flying : InBid o.sender.phase o.queue x.receiver.alternation x.receiver.last spool.records
    (Outward w) =
    subst (λ (f : Flight). InBid o.sender.phase o.queue x.receiver.alternation x.receiver.last
    spool.records f) b.flies b.bid in
    let agrees : ReceiverAgrees o.sender.phase o.queue spool.records r =
    laws.hearing o.sender.phase o.queue x.receiver spool w (Some h) x.urgent rooms flying
    fair in
    let stored : spool_at u.spools s ≡ r.spool =
    ap (λ (k : TributaryStep). spool_at k.tributary.spools s) becomes
    ∙ get_or-set_same x.spools s r.spool empty_spool there in
    subst (λ (z : SpoolValue). MovesAtReceiver o.sender.phase (channel o.queue spool.records)
    (channel o.queue z.records)) (sym stored) agrees.moves

-- a move at either end of the addressed channel is one that the definition allows
pub if_lands : (phase : Phase) (addressed : Option (ℕ × Way)) (t : ℕ) (way : Way)
    (old new : Channel) → addressed ≡ Some (t, way) → MovesAtReceiver phase old new
    → MovesIfAddressed addressed t way old new
if_lands phase addressed t way old new is (inl same) = inl same
if_lands phase addressed t way old new is (inr lands) = inr (is, inl (lands.0.count, lands.2))

pub if_learns : (addressed : Option (ℕ × Way)) (t : ℕ) (way : Way) (old new : Channel) → addressed
    ≡ Some (t, way) → MovesAtSender old new → MovesIfAddressed addressed t way old new
if_learns addressed t way old new is (inl same) = inl same
if_learns addressed t way old new is (inr learns) = inr (is, inr learns)

abbrev way_in : Option (ℕ × Way) → Way
way_in None = FromTerminal
way_in (Some a) = a.1

one_select_addressed : (addressed : Option (ℕ × Way)) (t u s k : ℕ) → addressed ≡ Some (t, ToTerminal s)
    → addressed ≡ Some (u, ToTerminal k) → s ≡ k
one_select_addressed addressed t u s k a b = let same : ToTerminal s ≡ ToTerminal k =
    ap way_in (sym a ∙ b) in cc

-- the terminals of a line hear the control station's message
pub record HearsControl (old new : LineValue) (w : Message) (hears : ℕ → Heard) : Type 0 where
  pub line : IsLine old
  pub pending : old.pending ≡ Some (record { speaker = sp.Control; message = w })
  pub carried : IsCarriedDown w hears old new
  pub trusted : IsTrue new.trusted

pub was_trusted_down : (old new : LineValue) (w : Message) (hears : ℕ → Heard)
    → HearsControl old new w hears → IsTrue old.trusted × IsHeardFairly w (terminal_count old) hears
was_trusted_down old new w hears k = k.carried.trusted.0 k.trusted

-- how the stations fitted together before
together_before_carry_down : (old new : LineValue) (w : Message) (hears : ℕ → Heard)
    → HearsControl old new w hears
    → InTask old.control.task (Some (record { speaker = sp.Control; message = w })) old.control
    old.terminals
together_before_carry_down old new w hears k =
    subst (λ (o : Option Transmission). InTask old.control.task o old.control old.terminals)
    k.pending (k.line.together (was_trusted_down old new w hears k).0)

-- a terminal that sends while a transmission of the control station is pending
bid_of_hearing_terminal : (task : Task) (w : Message) (c : ControlValue) (ts : List TributaryValue)
    (t : ℕ) → t < length ts → current c < length ts → (terminal_in ts t).mode ≡ Sends
    → InTask task (Some (record { speaker = sp.Control; message = w })) c ts
    → IsBidOf task (Some (record { speaker = sp.Control; message = w })) c ts t
bid_of_hearing_terminal task w c ts t less there sends k =
    elim (bid_of_sending_terminal task (Some (record { speaker = sp.Control; message = w })) c ts t
    less there sends k) [
      | inl bid ↦ bid
      | inr rest ↦
          absurd ((subst (λ (z : Task). InTask z
          (Some (record { speaker = sp.Control; message = w })) c ts) rest k).silent refl)
    ]

-- the channel from a terminal
down_moves_from : (laws : BidLaws) (old new : LineValue) (w : Message) (hears : ℕ → Heard) (t : ℕ)
    → HearsControl old new w hears → t < terminal_count old →
    MovesIfAddressed old.addressed t FromTerminal
    (channel (terminal_at old t).queue (peer_at old.control t).spool.records)
    (channel (terminal_at new t).queue (peer_at old.control t).spool.records)
down_moves_from laws old new w hears t k less =
    elim (terminal_queue (terminal_at old t) (terminal_at new t) (hears t)
    (answer_of old.terminals hears new.terminals t) (k.carried.terminals.each t less)) [
      | inl same ↦ inl (ap (λ (q : QueueValue). channel q (peer_at old.control t).spool.records)
          same)
      | inr learns ↦ moves_if_up_is_learnt learns
    ]
  where
    moves_if_up_is_learnt : LearnsUp (terminal_at old t) (hears t) (terminal_at new t) →
        MovesIfAddressed old.addressed t FromTerminal
        (channel (terminal_at old t).queue (peer_at old.control t).spool.records)
        (channel (terminal_at new t).queue (peer_at old.control t).spool.records)
    moves_if_up_is_learnt l =
        let c : ControlValue = old.control in
        let y : TributaryValue = terminal_at old (current c) in
        let q : PeerValue = peer c in
        let was : IsTrue old.trusted × IsHeardFairly w (terminal_count old) hears =
        was_trusted_down old new w hears k in
        let of : IsBidOf c.task (Some (record { speaker = sp.Control; message = w })) c
        old.terminals t =
        bid_of_hearing_terminal c.task w c old.terminals t less
        (current_terminal_there c old.terminals k.line.stations) l.mode
        (together_before_carry_down old new w hears k) in
        let r : Reply = of.bid.flies.0 in
        let never : is_call w ≡ false = ap is_call of.bid.flies.1 ∙ reply_is_no_call r in
        let fair : IsFairlyHeard (m.Reply r) (hears t) =
        subst (λ (v : Message). IsFairlyHeard v (hears t)) of.bid.flies.1
        (each_fairly w (terminal_count old) hears never was.1 t less) in
        let bid : InBid y.sender.phase y.queue q.receiver.alternation q.receiver.last
        q.spool.records (Back r) =
        subst (λ (f : Flight). InBid y.sender.phase y.queue q.receiver.alternation q.receiver.last
        q.spool.records f) of.bid.flies.2 of.bid.bid in
        let agrees : SenderAgrees y.queue q.receiver.alternation q.receiver.last q.spool.records
        (reply_step y.sender y.queue (reply_in (hears t))) =
        laws.answering y.sender y.queue q.receiver.alternation q.receiver.last q.spool.records
        (Some r) (Some (hears t)) bid fair in
        let moves : MovesAtSender (channel y.queue q.spool.records)
        (channel (reply_step y.sender y.queue (reply_in (hears t))).queue q.spool.records) =
        agrees.moves in
        let here : MovesAtSender (channel (terminal_at old t).queue (peer_at c t).spool.records)
        (channel (reply_step (terminal_at old t).sender (terminal_at old t).queue
        (reply_in (hears t))).queue (peer_at c t).spool.records) =
        subst (λ (n : ℕ). MovesAtSender (channel (terminal_at old n).queue
        (peer_at c n).spool.records) (channel
        (reply_step (terminal_at old n).sender (terminal_at old n).queue
        (reply_in (hears t))).queue (peer_at c n).spool.records)) (sym of.terminal) moves in
        let is : old.addressed ≡ Some (t, FromTerminal) =
        subst (λ (n : Mode). IsTuned old.addressed t n) l.mode (k.line.tuned was.0 t less) in
        if_learns old.addressed t FromTerminal
        (channel (terminal_at old t).queue (peer_at c t).spool.records)
        (channel (terminal_at new t).queue (peer_at c t).spool.records) is
        (subst (λ (z : QueueValue). MovesAtSender
        (channel (terminal_at old t).queue (peer_at c t).spool.records)
        (channel z (peer_at c t).spool.records)) (sym l.queue) here)

-- the channel to a selection address
down_moves_to : (laws : BidLaws) (old new : LineValue) (w : Message) (hears : ℕ → Heard) (t s : ℕ)
    → HearsControl old new w hears → t < terminal_count old →
    MovesIfAddressed old.addressed t (ToTerminal s)
    (channel (outbound_of old.control t s).queue
    (spool_at (terminal_at old t).spools s).records)
    (channel (outbound_of old.control t s).queue
    (spool_at (terminal_at new t).spools s).records)
down_moves_to laws old new w hears t s k less =
    elim ((k.carried.kept t less).grows s) [
      | inl same ↦ inl (ap (λ (rs : List (List ℕ)). channel (outbound_of old.control t s).queue rs)
          same)
      | inr stores ↦ moves_if_down_is_landed stores
    ]
  where
    moves_if_down_is_landed : Stores (terminal_at old t).mode (hears t) s
        (spool_at (terminal_at old t).spools s).records
        (spool_at (terminal_at new t).spools s).records →
        MovesIfAddressed old.addressed t (ToTerminal s)
        (channel (outbound_of old.control t s).queue
        (spool_at (terminal_at old t).spools s).records)
        (channel (outbound_of old.control t s).queue
        (spool_at (terminal_at new t).spools s).records)
    moves_if_down_is_landed l =
        let c : ControlValue = old.control in
        let e : ℕ = current c in
        let was : IsTrue old.trusted × IsHeardFairly w (terminal_count old) hears =
        was_trusted_down old new w hears k in
        let text : w ≡ m.Text l.text =
        text_sent_down w (terminal_count old) hears t l.text less l.heard was.1 in
        let to : IsBidTo (Some (record { speaker = sp.Control; message = m.Text l.text })) c
        old.terminals =
        bid_of_pending_text c.task l.text c old.terminals
        (λ modes. let both : Receiving s ≡ Control = sym l.receiving ∙ modes t less in cc)
        (subst (λ (v : Message). InTask c.task
        (Some (record { speaker = sp.Control; message = v })) c old.terminals) text
        (together_before_carry_down old new w hears k)) in
        let there : e < terminal_count old =
        subst (λ (n : ℕ). e < n) k.line.stations.count
        (current_within_peers c (places c k.line.stations.control.entries)) in
        let is : old.addressed ≡ Some (t, ToTerminal s) =
        subst (λ (n : Mode). IsTuned old.addressed t n) l.receiving
        (k.line.tuned was.0 t less) in
        let this : old.addressed ≡ Some (e, ToTerminal to.select) =
        subst (λ (n : Mode). IsTuned old.addressed e n) to.bid.mode
        (k.line.tuned was.0 e there) in
        let here : e ≡ t =
        one_terminal_of_address old.addressed e t (ToTerminal to.select) (ToTerminal s) this is in
        let select : to.select ≡ s = one_select_addressed old.addressed e t to.select s this is in
        let bid : IsInBidDown (Some (record { speaker = sp.Control; message = m.Text l.text }))
        (peer_at c t) t s (terminal_at old t) =
        subst (λ (n : ℕ). IsInBidDown (Some
        (record { speaker = sp.Control; message = m.Text l.text })) (peer_at c t) t n
        (terminal_at old t)) select
        (subst (λ (n : ℕ). IsInBidDown (Some
        (record { speaker = sp.Control; message = m.Text l.text })) (peer_at c n) n to.select
        (terminal_at old n)) here to.bid) in
        let fair : IsFairlyHeard (m.Text l.text) (hears t) =
        each_fairly (m.Text l.text) (terminal_count old) hears refl
        (subst (λ (v : Message). IsHeardFairly v (terminal_count old) hears) text was.1) t
        less in
        let into : s < length (terminal_at old t).spools =
        receiving_into (terminal_at old t).mode (terminal_at old t).sender.phase
        (length (terminal_at old t).spools) s l.receiving
        (k.line.stations.members t less).tributary.bid in
        if_lands (outbound_of c t s).sender.phase old.addressed t (ToTerminal s)
        (channel (outbound_of c t s).queue (spool_at (terminal_at old t).spools s).records)
        (channel (outbound_of c t s).queue (spool_at (terminal_at new t).spools s).records) is
        (text_down_lands laws (peer_at c t) t s (m.Text l.text) (hears t) (terminal_at old t)
        (terminal_at new t) (answer_of old.terminals hears new.terminals t) into bid
        (subst IsNoCall (sym l.heard) tt) fair (k.carried.terminals.each t less))

-- each channel
pub channels_move_by_carry_down : (laws : BidLaws) (old new : LineValue) (w : Message) (hears : ℕ → Heard)
    → HearsControl old new w hears → EachMoves old.addressed old new
channels_move_by_carry_down laws old new w hears k t FromTerminal is =
    subst (λ (c : ControlValue). MovesIfAddressed old.addressed t FromTerminal
    (channel_of old t FromTerminal) (channel (terminal_at new t).queue
    (peer_at c t).spool.records)) (sym k.carried.control)
    (down_moves_from laws old new w hears t k is.there)
channels_move_by_carry_down laws old new w hears k t (ToTerminal s) is =
    subst (λ (c : ControlValue). MovesIfAddressed old.addressed t (ToTerminal s)
    (channel_of old t (ToTerminal s))
    (channel (outbound_of c t s).queue (spool_at (terminal_at new t).spools s).records))
    (sym k.carried.control)
    (down_moves_to laws old new w hears t s k is.there)
