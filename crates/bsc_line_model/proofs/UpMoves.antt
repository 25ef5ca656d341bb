-- A terminal's transmission is heard on a trusted line: records arrive on the addressed channel
-- from the polled terminal, or the control station learns that its records arrived; nothing else
-- moves.
use Rattle.std.proofs.Common.{◌≡◌, inl, inr, ℕ, ◌<◌, List, length, IsTrue, Option, Some, false}
use Rattle.std.proofs.Common.{refl, sym, ◌∙◌, ap, subst, get_or-set_same, if◌then◌else◌}
use Rattle.bsc_frame.specs.declared.message.Message.{Message}
use Rattle.bsc_frame.specs.declared.message.Message.TheVariants as m
use Rattle.bsc_frame.specs.declared.message.Heard.{Heard}
use Rattle.bsc_frame.specs.declared.message.Heard.TheVariants.{Whole}
use Rattle.bsc_frame.specs.Texts.{TextValue}
use Rattle.bsc_spool.specs.Queue.{QueueValue}
use Rattle.bsc_spool.specs.Spool.{SpoolValue}
use Rattle.bsc_frame.specs.declared.reply.Reply.{Reply}
use Rattle.bsc_frame.specs.Replies.{reply_in}
use Rattle.bsc_bid.specs.Receiver.{ReceiverStep, Rooms, heard_step, sends_interrupt}
use Rattle.bsc_bid.specs.Sender.{SenderStep, reply_step}
use Rattle.bsc_bid.specs.Channel.{channel}
use Rattle.bsc_bid.specs.Fair.{IsFairlyHeard}
use Rattle.bsc_bid.specs.Agreement.{Flight, Outward, Back, InBid}
use Rattle.bsc_bid.specs.OneBid.{MovesAtReceiver, MovesAtSender}
use Rattle.bsc_bid.specs.EachStep.{ReceiverAgrees, SenderAgrees}
use Rattle.bsc_tributary.specs.declared.mode.Mode.{Mode}
use Rattle.bsc_tributary.specs.Tributary.{TributaryValue, spool_at}
use Rattle.bsc_control.specs.declared.task.Replied.{Replied}
use Rattle.bsc_control.specs.declared.task.Task.{Task}
use Rattle.bsc_control.specs.declared.task.Task.TheVariants.{Polling}
use Rattle.bsc_bid.specs.declared.way.Way.TheVariants.{FromTerminal, ToTerminal}
use Rattle.bsc_control.specs.Peer.{PeerValue, OutboundValue, no_peer, outbound_at}
use Rattle.bsc_control.specs.Control.{ControlValue, ControlStep, peer_at, peer, current}
use Rattle.bsc_control.specs.Kept.{outbound_of, Stores}
use Rattle.bsc_control.specs.Table.{Hears, task_step, receive_step, rooms_after}
use Rattle.bsc_bid.specs.declared.speaker.Speaker.TheVariants as sp
use Rattle.bsc_line_model.specs.declared.transmission.Transmission.{Transmission}
use Rattle.bsc_line_model.specs.Line.{LineValue, terminal_in, terminal_at, terminal_count}
use Rattle.bsc_line_model.specs.Line.{channel_of}
use Rattle.bsc_line_model.specs.Carries.{IsCarriedUp}
use Rattle.bsc_line_model.specs.Kept.{IsTuned, IsLine}
use Rattle.bsc_line_model.specs.Together.{IsInBidDown, IsInBidUp, IsPolling, IsSending, InTask}
use Rattle.bsc_line_model.specs.BidLaws.{BidLaws}
use Rattle.bsc_control.proofs.Calls.{places, current_within_peers}
use Rattle.bsc_line_model.proofs.OutboundSteps.{LearnsDown, outbound_queue}
use Rattle.bsc_line_model.proofs.DownMoves.{text_sent, if_lands, if_learns}
use Rattle.bsc_line_model.proofs.UnheardBids.{bid_of_answering_terminal}
use Rattle.bsc_line_model.proofs.Moving.{MovesIfAddressed, EachMoves}

-- the control station of a line hears a terminal's message
pub record HearsTerminal (old new : LineValue) (from : ℕ) (w : Message) (h : Heard) : Type 0 where
  pub line : IsLine old
  pub pending : old.pending ≡ Some (record { speaker = sp.Terminal from; message = w })
  pub carried : IsCarriedUp w h old new
  pub trusted : IsTrue new.trusted

was_trusted_up : (old new : LineValue) (from : ℕ) (w : Message) (h : Heard)
    → HearsTerminal old new from w h → IsTrue old.trusted × IsFairlyHeard w h
was_trusted_up old new from w h k = k.carried.trusted.0 k.trusted

together_up : (old new : LineValue) (from : ℕ) (w : Message) (h : Heard)
    → HearsTerminal old new from w h
    → InTask old.control.task (Some (record { speaker = sp.Terminal from; message = w }))
    old.control old.terminals
together_up old new from w h k =
    subst (λ (o : Option Transmission). InTask old.control.task o old.control old.terminals)
    k.pending (k.line.together (was_trusted_up old new from w h k).0)

present_there : (l : LineValue) → IsLine l → current l.control < terminal_count l
present_there l is =
    subst (λ (n : ℕ). current l.control < n) is.stations.count
    (current_within_peers l.control (places l.control is.stations.control.entries))

-- a text in a poll belongs to the bid of the polled terminal
bid_from : (c : ControlValue) (ts : List TributaryValue) (from : ℕ) (t : TextValue)
    (replied : Replied)
    → IsPolling (Some (record { speaker = sp.Terminal from; message = m.Text t })) c ts replied →
    IsInBidUp (Some (record { speaker = sp.Terminal from; message = m.Text t })) (peer c)
    (current c) (terminal_in ts (current c))
bid_from c ts from t replied k =
    elim k.present [
      | inl q ↦ (let no : m.Text t ≡ m.Eot = q.1.1 in absurd (cc))
      | inr b ↦ b
    ]

-- the spool that takes the text
spool_after : (c d : ControlValue) (t : TextValue) (out : Option Message) (replied : Replied)
    → Hears c (Whole (m.Text t)) d out → c.task ≡ Polling replied → current c < length c.peers →
    (peer_at d (current c)).spool
    ≡ (heard_step (peer c).receiver (peer c).spool (Whole (m.Text t)) (peer c).urgent
    (rooms_after c (Whole (m.Text t)) d)).spool
spool_after c d t out replied row task there =
    let p : PeerValue = peer c in
    let rooms : Rooms = rooms_after c (Whole (m.Text t)) d in
    let step : ReceiverStep = heard_step p.receiver p.spool (Whole (m.Text t)) p.urgent rooms in
    let becomes : record { control = d; sent = out } ≡ receive_step c replied step = row.row
    ∙ ap (λ (k : Task). task_step c k (Whole (m.Text t)) rooms) task in
    ap (λ (o : ControlStep). (peer_at o.control (current c)).spool) becomes
    ∙ ap (λ (q : PeerValue). q.spool) (get_or-set_same c.peers (current c)
    (record p {
      receiver = step.receiver;
      spool = step.spool;
      urgent =
          if sends_interrupt step.reply then false else p.urgent;
    }) no_peer there)

-- the channel from a terminal
up_moves_from : (laws : BidLaws) (old new : LineValue) (from : ℕ) (w : Message) (h : Heard) (t : ℕ)
    → HearsTerminal old new from w h →
    MovesIfAddressed old.addressed t FromTerminal
    (channel (terminal_at old t).queue (peer_at old.control t).spool.records)
    (channel (terminal_at old t).queue (peer_at new.control t).spool.records)
up_moves_from laws old new from w h t k =
    elim (k.carried.kept.spools t) [
      | inl same ↦ inl (ap (λ (rs : List (List ℕ)). channel (terminal_at old t).queue rs) same)
      | inr stores ↦ moves_if_up_is_landed stores
    ]
  where
    moves_if_up_is_landed : Stores old.control h t (peer_at old.control t).spool.records
        (peer_at new.control t).spool.records →
        MovesIfAddressed old.addressed t FromTerminal
        (channel (terminal_at old t).queue (peer_at old.control t).spool.records)
        (channel (terminal_at old t).queue (peer_at new.control t).spool.records)
    moves_if_up_is_landed l =
        let c : ControlValue = old.control in
        let d : ControlValue = new.control in
        let e : ℕ = current c in
        let p : PeerValue = peer c in
        let x : TributaryValue = terminal_at old e in
        let was : IsTrue old.trusted × IsFairlyHeard w h = was_trusted_up old new from w h k in
        let text : w ≡ m.Text l.text = text_sent w h l.text l.heard was.1 in
        let polling : IsPolling
        (Some (record { speaker = sp.Terminal from; message = m.Text l.text })) c old.terminals
        l.replied =
        subst (λ (v : Message). IsPolling
        (Some (record { speaker = sp.Terminal from; message = v })) c old.terminals l.replied)
        text
        (subst (λ (z : Task). InTask z (Some (record { speaker = sp.Terminal from; message = w })) c
        old.terminals) l.polling (together_up old new from w h k)) in
        let b : IsInBidUp (Some (record { speaker = sp.Terminal from; message = m.Text l.text })) p
        e x = bid_from c old.terminals from l.text l.replied polling in
        let bid : InBid x.sender.phase x.queue p.receiver.alternation p.receiver.last
        p.spool.records (Outward (m.Text l.text)) =
        subst (λ (f : Flight). InBid x.sender.phase x.queue p.receiver.alternation p.receiver.last
        p.spool.records f) b.flies.1 b.bid in
        let rooms : Rooms = rooms_after c (Whole (m.Text l.text)) d in
        let step : ReceiverStep =
        heard_step p.receiver p.spool (Whole (m.Text l.text)) p.urgent rooms in
        let agrees : ReceiverAgrees x.sender.phase x.queue p.spool.records step =
        laws.hearing x.sender.phase x.queue p.receiver p.spool (m.Text l.text)
        (Some (Whole (m.Text l.text))) p.urgent rooms bid (inl refl) in
        let row : Hears c (Whole (m.Text l.text)) d k.carried.sent =
        subst (λ (g : Heard). Hears c g d k.carried.sent) l.heard k.carried.control in
        let there : e < length c.peers =
        current_within_peers c (places c k.line.stations.control.entries) in
        let stored : (peer_at d e).spool ≡ step.spool =
        spool_after c d l.text k.carried.sent l.replied row l.polling there in
        let moves : MovesAtReceiver x.sender.phase (channel x.queue p.spool.records)
        (channel x.queue (peer_at d e).spool.records) =
        subst (λ (z : SpoolValue). MovesAtReceiver x.sender.phase (channel x.queue p.spool.records)
        (channel x.queue z.records)) (sym stored) agrees.moves in
        let is : old.addressed ≡ Some (e, FromTerminal) =
        subst (λ (n : Mode). IsTuned old.addressed e n) b.mode
        (k.line.tuned was.0 e (present_there old k.line)) in
        subst (λ (n : ℕ). MovesIfAddressed old.addressed n FromTerminal
        (channel (terminal_at old n).queue (peer_at c n).spool.records)
        (channel (terminal_at old n).queue (peer_at d n).spool.records)) (sym l.polled)
        (if_lands x.sender.phase old.addressed e FromTerminal (channel x.queue p.spool.records)
        (channel x.queue (peer_at d e).spool.records) is moves)

-- the channel to a selection address
up_moves_to : (laws : BidLaws) (old new : LineValue) (from : ℕ) (w : Message) (h : Heard) (t s : ℕ)
    → HearsTerminal old new from w h →
    MovesIfAddressed old.addressed t (ToTerminal s)
    (channel (outbound_of old.control t s).queue
    (spool_at (terminal_at old t).spools s).records)
    (channel (outbound_of new.control t s).queue
    (spool_at (terminal_at old t).spools s).records)
up_moves_to laws old new from w h t s k =
    elim (outbound_queue old.control new.control h k.carried.sent t s k.line.stations.control
    k.carried.control) [
      | inl same ↦ inl
          (ap (λ (q : QueueValue). channel q (spool_at (terminal_at old t).spools s).records) same)
      | inr learns ↦ moves_if_down_is_learnt learns
    ]
  where
    moves_if_down_is_learnt : LearnsDown old.control h new.control t s →
        MovesIfAddressed old.addressed t (ToTerminal s)
        (channel (outbound_of old.control t s).queue
        (spool_at (terminal_at old t).spools s).records)
        (channel (outbound_of new.control t s).queue
        (spool_at (terminal_at old t).spools s).records)
    moves_if_down_is_learnt l =
        let c : ControlValue = old.control in
        let d : ControlValue = new.control in
        let e : ℕ = current c in
        let x : TributaryValue = terminal_at old e in
        let o : OutboundValue = outbound_at (peer c) s in
        let spooled : List (List ℕ) = (spool_at x.spools s).records in
        let was : IsTrue old.trusted × IsFairlyHeard w h = was_trusted_up old new from w h k in
        let sending : IsSending (Some (record { speaker = sp.Terminal from; message = w })) c
        old.terminals s =
        subst (λ (z : Task). InTask z (Some (record { speaker = sp.Terminal from; message = w })) c
        old.terminals) l.task (together_up old new from w h k) in
        let b : IsInBidDown (Some (record { speaker = sp.Terminal from; message = w })) (peer c) e s
        x = bid_of_answering_terminal c old.terminals from w s sending in
        let r : Reply = b.flies.1.0 in
        let bid : InBid o.sender.phase o.queue x.receiver.alternation x.receiver.last spooled
        (Back r) =
        subst (λ (f : Flight). InBid o.sender.phase o.queue x.receiver.alternation x.receiver.last
        spooled f) b.flies.1.2 b.bid in
        let fair : IsFairlyHeard (m.Reply r) h =
        subst (λ (v : Message). IsFairlyHeard v h) b.flies.1.1 was.1 in
        let step : SenderStep = reply_step o.sender o.queue (reply_in h) in
        let agrees : SenderAgrees o.queue x.receiver.alternation x.receiver.last spooled step =
        laws.answering o.sender o.queue x.receiver.alternation x.receiver.last spooled (Some r)
        (Some h) bid fair in
        let left : (outbound_of d e s).queue ≡ step.queue =
        ap (λ (n : ℕ). (outbound_of d n s).queue) (sym l.terminal) ∙ l.queue in
        let moves : MovesAtSender (channel o.queue spooled)
        (channel (outbound_of d e s).queue spooled) =
        subst (λ (q : QueueValue). MovesAtSender (channel o.queue spooled) (channel q spooled))
        (sym left) agrees.moves in
        let is : old.addressed ≡ Some (e, ToTerminal s) =
        subst (λ (n : Mode). IsTuned old.addressed e n) b.mode
        (k.line.tuned was.0 e (present_there old k.line)) in
        subst (λ (n : ℕ). MovesIfAddressed old.addressed n (ToTerminal s)
        (channel (outbound_of c n s).queue (spool_at (terminal_at old n).spools s).records)
        (channel (outbound_of d n s).queue (spool_at (terminal_at old n).spools s).records))
        (sym l.terminal)
        (if_learns old.addressed e (ToTerminal s) (channel o.queue spooled)
        (channel (outbound_of d e s).queue spooled) is moves)

-- each channel
pub up_moves : (laws : BidLaws) (old new : LineValue) (from : ℕ) (w : Message) (h : Heard)
    → HearsTerminal old new from w h → EachMoves old.addressed old new
up_moves laws old new from w h k t FromTerminal is =
    subst (λ (ts : List TributaryValue). MovesIfAddressed old.addressed t FromTerminal
    (channel_of old t FromTerminal) (channel (terminal_in ts t).queue
    (peer_at new.control t).spool.records)) (sym k.carried.terminals)
    (up_moves_from laws old new from w h t k)
up_moves laws old new from w h k t (ToTerminal s) is =
    subst (λ (ts : List TributaryValue). MovesIfAddressed old.addressed t (ToTerminal s)
    (channel_of old t (ToTerminal s))
    (channel (outbound_of new.control t s).queue
    (spool_at (terminal_in ts t).spools s).records)) (sym k.carried.terminals)
    (up_moves_to laws old new from w h t s k)
