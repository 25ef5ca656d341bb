-- Every event of a bid keeps the agreement of its two ends.
use Rattle.std.proofs.Common.{◌≡◌, inl, inr, ℕ, ◌+◌, ◌≤◌, List, [], ◌∷◌, length, Some, refl, sym}
use Rattle.std.proofs.Common.{◌∙◌, ap, subst, arith}
use Rattle.std.proofs.lemmas.List.{length-take-le}
use Rattle.bsc_frame.specs.declared.message.Message.{Message}
use Rattle.bsc_spool.specs.Queue.{QueueValue, waiting}
use Rattle.bsc_bid.specs.Act.{Act}
use Rattle.bsc_bid.specs.Act as a
use Rattle.bsc_bid.specs.declared.alternation.Alternation.{Alternation}
use Rattle.bsc_bid.specs.declared.alternation.Alternation.TheVariants.{Even}
use Rattle.bsc_frame.specs.declared.reply.Reply.{Reply}
use Rattle.bsc_frame.specs.declared.reply.Reply.TheVariants.{Ack0}
use Rattle.bsc_bid.specs.declared.phase.Phase.{Phase}
use Rattle.bsc_bid.specs.declared.phase.Phase.TheVariants.{Idle, Unanswered, Held, InDoubt}
use Rattle.bsc_bid.specs.Sender.{SenderValue, SenderStep, begin_step}
use Rattle.bsc_bid.specs.Receiver.{ReceiverValue, ReceiverStep}
use Rattle.bsc_bid.specs.Ready.{CountsOn, IsReady, FitsAct}
use Rattle.bsc_bid.specs.EachStep.{IsEnded}
use Rattle.bsc_bid.specs.Channel.{channel, IsSound}
use Rattle.bsc_bid.specs.Act.{message_for}
use Rattle.bsc_bid.specs.Bid.{Bid, Turn, BidEvent, Exchange, Offering, receiver_in, sender_in}
use Rattle.bsc_bid.specs.Bid.{unless_quiet, after_turn, after_event, IsFairTurn, MayCome}
use Rattle.bsc_bid.specs.Bid.{AreEvents, IsNewBid, Reaches}
use Rattle.bsc_bid.specs.OneBid.{channel_within, MovesInTurn, OnlyMoves, StaysReady, StaysSound}
use Rattle.bsc_bid.specs.OneBid.{SoundWithinTurns}
use Rattle.bsc_bid.specs.Agreement.{Flight, Outward, InBid, Continues, reply_flight, sent_flight}
use Rattle.bsc_bid.proofs.Readiness.{within_offered}
use Rattle.bsc_bid.proofs.Hearing.{RecordsBack, Keeps, count_of_block_fits, receiver_keeps}
use Rattle.bsc_bid.proofs.Answering.{sender_keeps, settled_keeps, begin_keeps}
use Rattle.bsc_bid.proofs.Landing.{NextLaw, Leaves}
use Rattle.bsc_bid.proofs.Answering.{in_bid_while_outward}
use Rattle.bsc_bid.proofs.Offers.{OffersQueue, continues_offered}
use Rattle.bsc_bid.proofs.Fitting.{Fits, fits_begin, fits_heard, fits_settled}

-- the laws of the layers below that a bid rests on
pub record LawsBelow : Type 0 where
  pub records : RecordsBack
  pub next : NextLaw
  pub offers : OffersQueue

-- the two ends agree, and if the bid is over, the sender is at rest
pub record Holds (b : Bid) : Type 0 where
  pub ends : Continues b.sender.phase b.queue b.receiver.alternation b.receiver.last b.spool.records
      (sent_flight b.act)
  pub rests : IsEnded b.act b.sender.phase

ended_by : (x : Act) (old new : Phase) → FitsAct x old new → IsEnded x new
ended_by (a.Send t) old new h = tt
ended_by a.Enq old new h = tt
ended_by a.Over old new h = h
ended_by a.Quiet old new h = tt

-- a step that ends the bid leaves the sender at rest
pub at_rest_after_end : (s : SenderValue) (t : SenderStep) → Fits s t → IsEnded t.act t.sender.phase
at_rest_after_end s t h = ended_by t.act s.phase t.sender.phase h

-- a channel is sound while the ends agree
pub sound_by : (phase : Phase) (q : QueueValue) (alternation : Alternation) (last : Reply)
    (spooled : List (List ℕ)) (f : Flight) → Continues phase q alternation last spooled f
    → IsSound phase (channel q spooled)
sound_by Idle q alternation last spooled f h = h.0.sound
sound_by (InDoubt k) q alternation last spooled f h = h.0.sound
sound_by (Held e x) q alternation last spooled f h =
    let known : q.known ≤ length q.offered = h.queue.known in
    let long : length spooled ≡ q.known = ap length h.agree.front
    ∙ length-take-le q.known q.offered known in
    record { front = rw long h.agree.front; known = omega arith; spooled = long }
sound_by (Unanswered b) q alternation last spooled f h =
    let known : q.known ≤ length q.offered = h.queue.known in
    elim h.agree [
      | inl x ↦
          (let long : length spooled ≡ q.known = ap length x.front
          ∙ length-take-le q.known q.offered known in
          record { front = rw long x.front; known = omega arith; spooled = inl long })
      | inr x ↦
          (let long : length spooled ≡ q.known + b.count = ap length x.front ∙ length-take-le
          (q.known + b.count) q.offered (within_offered q b.count h.queue (count_of_block_fits b _ h.counts)) in
          record { front = rw long x.front; known = omega arith; spooled = inr long })
    ]

pub record Turned (b : Bid) (t : Turn) : Type 0 where
  pub holds : Holds (after_turn b t)
  pub sound : IsSound b.sender.phase (channel_within b t)
  pub moves : MovesInTurn b t

-- a bid in progress continues
pub bid_continues : (phase : Phase) (q : QueueValue) (alternation : Alternation) (last : Reply)
    (spooled : List (List ℕ)) (f : Flight) → InBid phase q alternation last spooled f
    → Continues phase q alternation last spooled f
bid_continues Idle q alternation last spooled f i = absurd i.agree
bid_continues (InDoubt k) q alternation last spooled f i = absurd i.agree
bid_continues (Held e x) q alternation last spooled f i = i
bid_continues (Unanswered b) q alternation last spooled f i = i

-- what is sent while a bid is in progress
sent_message_is_outward : (x : Act) (sent : Message) → message_for x ≡ Some sent → sent_flight x ≡ Outward sent
sent_message_is_outward (a.Send t) sent e = cc
sent_message_is_outward a.Enq sent e = cc
sent_message_is_outward a.Over sent e = absurd (cc e)
sent_message_is_outward a.Quiet sent e = absurd (cc e)

pub in_bid_while_sending : (b : Bid) (sent : Message) → message_for b.act ≡ Some sent → Holds b
    → InBid b.sender.phase b.queue b.receiver.alternation b.receiver.last b.spool.records
    (Outward sent)
in_bid_while_sending b sent e h =
    in_bid_while_outward b.sender.phase b.queue b.receiver.alternation b.receiver.last b.spool.records sent
    (subst (λ (f : Flight). Continues b.sender.phase b.queue b.receiver.alternation b.receiver.last
    b.spool.records f)
    (sent_message_is_outward b.act sent e) h.ends)

pub turn_keeps : LawsBelow → (b : Bid) (t : Turn) → Holds b → IsFairTurn b t → Turned b t
turn_keeps law b t h fair =
    let i : InBid b.sender.phase b.queue b.receiver.alternation b.receiver.last b.spool.records
    (Outward fair.sent) =
    in_bid_while_sending b fair.sent fair.goes_on h in
    let r : ReceiverStep = receiver_in b t in
    let k : Keeps b.sender.phase b.queue b.spool.records r =
    receiver_keeps law.records b.sender.phase b.queue b.receiver b.spool fair.sent t.heard t.urgent
    t.rooms i fair.fair_heard in
    let j : InBid b.sender.phase b.queue r.receiver.alternation r.receiver.last r.spool.records
    (reply_flight r.reply) =
    record { queue = i.queue; block = i.block; counts = i.counts; agree = k.0 } in
    let l : Leaves b.queue r.receiver.alternation r.receiver.last r.spool.records (sender_in b t) =
    sender_keeps law.next b.sender b.queue r.receiver.alternation r.receiver.last r.spool.records
    r.reply t.answer j fair.fair_answer in
    let s : SenderStep = sender_in b t in
    let u : Leaves b.queue r.receiver.alternation r.receiver.last r.spool.records
    (unless_quiet s s.act) =
    settled_keeps b.queue r.receiver.alternation r.receiver.last r.spool.records s s.act refl l in
    record {
      holds = record {
        ends = u.0;
        rests =
            at_rest_after_end b.sender (unless_quiet s s.act)
            (fits_settled b.sender s s.act refl (fits_heard b.sender b.queue r.reply t.answer));
      };
      sound =
          sound_by b.sender.phase b.queue r.receiver.alternation r.receiver.last r.spool.records
          (reply_flight r.reply)
          (bid_continues b.sender.phase b.queue r.receiver.alternation r.receiver.last
          r.spool.records (reply_flight r.reply) j);
      moves = record { receiver = k.1; sender = u.1 };
    }

event_keeps : LawsBelow → (b : Bid) (e : BidEvent) → Holds b → MayCome b e → Holds (after_event b e)
event_keeps law b (Exchange t) h k = (turn_keeps law b t h k).holds
event_keeps law b (Offering r) h k =
    record {
      ends =
          continues_offered law.offers b.sender.phase b.queue r b.receiver.alternation
          b.receiver.last b.spool.records (sent_flight b.act) k h.ends;
      rests = h.rests;
    }

events_keep : LawsBelow → (b : Bid) (es : List BidEvent) (c : Bid) → Holds b → AreEvents b es c
    → Holds c
events_keep law b [] c h k = subst Holds (sym k) h
events_keep law b (e ∷ es) c h k =
    events_keep law (after_event b e) es c (event_keeps law b e h k.0) k.1

begun_holds : LawsBelow → (b : Bid) → IsNewBid b → Holds b
begun_holds law b h =
    let k = begin_keeps law.next h.sender b.queue b.spool.records h.queue h.sound h.waits in
    let first : SenderStep = record { sender = b.sender; queue = b.queue; act = b.act } in
    let there : Continues b.sender.phase b.queue Even Ack0 b.spool.records (sent_flight b.act) =
    subst (λ (t : SenderStep). Continues t.sender.phase t.queue Even Ack0 b.spool.records
    (sent_flight t.act))
    (sym h.first) k.0 in
    record {
      ends =
          subst (λ (r : ReceiverValue). Continues b.sender.phase b.queue r.alternation r.last
          b.spool.records
          (sent_flight b.act)) (sym h.receiver) there;
      rests = subst (λ (t : SenderStep). IsEnded t.act t.sender.phase) (sym h.first)
          (at_rest_after_end h.sender (begin_step h.sender b.queue) (fits_begin h.sender b.queue));
    }

pub reached_holds : LawsBelow → (b : Bid) (es : List BidEvent) (c : Bid) → Reaches b es c → Holds c
reached_holds law b es c h = events_keep law b es c (begun_holds law b h.new_bid) h.events

ready_by : (s : SenderValue) (phase : Phase) (q : QueueValue) (alternation : Alternation)
    (last : Reply)
    (spooled : List (List ℕ)) (f : Flight) → s.phase ≡ phase
    → Continues phase q alternation last spooled f → IsReady s q
ready_by s Idle q alternation last spooled f e h =
    record {
      queue = h.0.queue;
      counts =
          subst (λ (p : Phase). CountsOn p (length (waiting q))) (sym e) h.0.counts;
    }
ready_by s (InDoubt k) q alternation last spooled f e h =
    record {
      queue = h.0.queue;
      counts =
          subst (λ (p : Phase). CountsOn p (length (waiting q))) (sym e) h.0.counts;
    }
ready_by s (Held end x) q alternation last spooled f e h =
    record {
      queue = h.queue;
      counts =
          subst (λ (p : Phase). CountsOn p (length (waiting q))) (sym e) h.counts;
    }
ready_by s (Unanswered b) q alternation last spooled f e h =
    record {
      queue = h.queue;
      counts =
          subst (λ (p : Phase). CountsOn p (length (waiting q))) (sym e) h.counts;
    }

pub stays_ready : LawsBelow → StaysReady
stays_ready law b es c h =
    ready_by c.sender c.sender.phase c.queue c.receiver.alternation c.receiver.last c.spool.records
    (sent_flight c.act) refl (reached_holds law b es c h).ends

pub stays_sound : LawsBelow → StaysSound
stays_sound law b es c h =
    sound_by c.sender.phase c.queue c.receiver.alternation c.receiver.last c.spool.records
    (sent_flight c.act)
    (reached_holds law b es c h).ends

pub sound_within_turns : LawsBelow → SoundWithinTurns
sound_within_turns law b es c t h fair =
    (turn_keeps law c t (reached_holds law b es c h) fair).sound

pub only_moves : LawsBelow → OnlyMoves
only_moves law b es c t h fair = (turn_keeps law c t (reached_holds law b es c h) fair).moves
