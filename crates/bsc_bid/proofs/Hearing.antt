-- What the receiver does with what it hears keeps the agreement of both ends, and at most lands the
-- unanswered block.
use Rattle.std.proofs.Common.{◌≡◌, inl, inr, ℕ, ◌+◌, ◌≤◌, Bool, true, false, List, ◌++◌, length}
use Rattle.std.proofs.Common.{take, drop, map, Option, None, Some, refl, sym, ◌∙◌, ap, subst, arith}
use Rattle.std.proofs.Common.{length-drop}
use Rattle.std.proofs.Math.Seq.{take-add}
use Rattle.std.proofs.lemmas.List.{length-take-le}
use Rattle.bsc_frame.specs.declared.message.Message.{Message}
use Rattle.bsc_frame.specs.declared.message.Message.TheVariants as m
use Rattle.bsc_frame.specs.declared.message.Heard.{Heard}
use Rattle.bsc_frame.specs.declared.message.Heard.TheVariants.{Whole, Failed, Noise}
use Rattle.bsc_frame.specs.Texts.{TextValue}
use Rattle.bsc_block.specs.Blocks.{unit_of, records_in}
use Rattle.bsc_spool.specs.Queue.{QueueValue, IsQueue, waiting}
use Rattle.bsc_spool.specs.Spool.{SpoolValue}
use Rattle.bsc_bid.specs.declared.alternation.Alternation.{Alternation}
use Rattle.bsc_bid.specs.declared.alternation.Alternation.TheVariants.{Even, Odd}
use Rattle.bsc_frame.specs.declared.reply.Reply.{Reply}
use Rattle.bsc_frame.specs.declared.reply.Reply.TheVariants.{Ack0, Ack1, Nak, Wack, Rvi}
use Rattle.bsc_bid.specs.declared.phase.SentBlock.{SentBlock}
use Rattle.bsc_bid.specs.declared.phase.Phase.{Phase}
use Rattle.bsc_bid.specs.declared.phase.Phase.TheVariants.{Idle, Unanswered, Held, InDoubt}
use Rattle.bsc_bid.specs.Answer.{other, ack}
use Rattle.bsc_bid.specs.Sender.{text_of}
use Rattle.bsc_bid.specs.Receiver.{ReceiverValue, ReceiverStep, Rooms, text_step, enq_step}
use Rattle.bsc_bid.specs.Receiver.{heard_step}
use Rattle.bsc_bid.specs.Ready.{HasBlock, CountsOn}
use Rattle.bsc_bid.specs.Channel.{channel}
use Rattle.bsc_bid.specs.Fair.{IsTextMessage, IsCallCutShort, IsFairlyHeard, IsFair}
use Rattle.bsc_bid.specs.Bid.{received}
use Rattle.bsc_bid.specs.OneBid.{MovesAtReceiver}
use Rattle.bsc_bid.specs.Agreement.{Flight, Still, Outward, Back, IsReplyAfter, IsReplyHeld}
use Rattle.bsc_bid.specs.Agreement.{IsFlightBefore, IsFlightAfter, NotLanded, HasLanded, IsHeld}
use Rattle.bsc_bid.specs.Agreement.{Agree, InBid, reply_flight}
use Rattle.bsc_bid.proofs.Readiness.{all_waiting}

-- the units that are built for records hold these records
abbrev pub RecordsBack : Type 0
RecordsBack = (full : ℕ) (rs : List (List ℕ)) → 1 ≤ full → records_in (map (unit_of full) rs) ≡ rs

-- what hearing leaves: the ends agree with the reply on its way, and the channel moved as it may
abbrev pub Keeps : Phase → QueueValue → List (List ℕ) → ReceiverStep → Type 0
Keeps phase q spooled out =
    Agree phase q out.receiver.alternation out.receiver.last out.spool.records
    (reply_flight out.reply) × MovesAtReceiver phase
    (channel q spooled) (channel q out.spool.records)

-- the records of a block that is sent
pub block_records : RecordsBack → (q : QueueValue) (b : SentBlock) → IsQueue q
    → records_in (text_of q b).units ≡ take b.count (waiting q)
block_records law q b h = law q.format.full (take b.count (waiting q)) h.format.full_from

pub count_of_block_fits : (b : SentBlock) (n : ℕ) → CountsOn (Unanswered b) n → b.count ≤ n
count_of_block_fits b n h = all_waiting b.count n b.end h

other_after : (x y : Alternation) → x ≡ other y → IsReplyAfter (ack (other x)) y
other_after Odd Odd e = absurd (cc)
other_after Odd Even e = tt
other_after Even Odd e = tt
other_after Even Even e = absurd (cc)

other_other : (x y : Alternation) → x ≡ other y → other x ≡ y
other_other Odd Odd e = absurd (cc)
other_other Odd Even e = refl
other_other Even Odd e = refl
other_other Even Even e = absurd (cc)

-- the block lands
agreement_after_block_lands : RecordsBack → (b : SentBlock) (q : QueueValue) (alternation : Alternation) (last x : Reply)
    (spooled : List (List ℕ)) (t : TextValue) → IsQueue q → HasBlock (Unanswered b)
    → CountsOn (Unanswered b) (length (waiting q))
    → NotLanded b q alternation last spooled (Outward (m.Text t)) → IsReplyAfter x b.alternation →
    (Agree (Unanswered b) q (other alternation) x (spooled ++ records_in t.units) (Back x))
    × MovesAtReceiver
    (Unanswered b) (channel q spooled) (channel q (spooled ++ records_in t.units))
agreement_after_block_lands law b q alternation last x spooled t queue block counts h a =
    let known : q.known ≤ length q.offered = queue.known in
    let fit : b.count ≤ length (waiting q) = count_of_block_fits b _ counts in
    let there : records_in t.units ≡ take b.count (drop q.known q.offered) =
    ap (λ (u : TextValue). records_in u.units) h.flight ∙ block_records law q b queue in
    let long : length spooled ≡ q.known = ap length h.front
    ∙ length-take-le q.known q.offered known in
    let all : spooled ++ records_in t.units ≡ take (q.known + b.count) q.offered =
    rw (h.front, there, take-add q.known b.count q.offered) in (
      inr (record {
        front = all;
        counted = other_other alternation b.alternation h.counted;
        reply =
            a;
        flight = refl;
      }),
      inr (
        b,
        refl,
        record {
          some = block.0;
          few = block.1;
          all_known = long;
          there = omega
              (arith, length-drop q.known q.offered);
          landed = ap (λ u. channel q (spooled ++ u)) there;
        },
      ),
    )

-- a text is heard
text_keeps : RecordsBack
    → (b : SentBlock) (q : QueueValue) (alternation : Alternation) (last : Reply)
    (s : SpoolValue) (t : TextValue) (urgent first after : Bool) → IsQueue q
    → HasBlock (Unanswered b) → CountsOn (Unanswered b) (length (waiting q))
    → NotLanded b q alternation last s.records (Outward (m.Text t)) →
    Keeps (Unanswered b) q s.records
    (text_step (record { alternation = alternation; last = last }) s t urgent
    (record { first = first; after = after }))
text_keeps law b q alternation last s t urgent false after queue block counts h =
    (inl (record { front = h.front; counted = h.counted; reply = tt; flight = refl }), inl refl)
text_keeps law b q alternation last s t false true true queue block counts h =
    agreement_after_block_lands law b q alternation last (ack (other alternation)) s.records t queue block counts h
    (other_after alternation b.alternation h.counted)
text_keeps law b q alternation last s t false true false queue block counts h =
    agreement_after_block_lands law b q alternation last Wack s.records t queue block counts h tt
text_keeps law b q alternation Rvi s t true true after queue block counts h = absurd h.reply
text_keeps law b q alternation Wack s t true true after queue block counts h = absurd h.reply
text_keeps law b q alternation Ack0 s t true true after queue block counts h =
    agreement_after_block_lands law b q alternation Ack0 Rvi s.records t queue block counts h tt
text_keeps law b q alternation Ack1 s t true true after queue block counts h =
    agreement_after_block_lands law b q alternation Ack1 Rvi s.records t queue block counts h tt
text_keeps law b q alternation Nak s t true true after queue block counts h =
    agreement_after_block_lands law b q alternation Nak Rvi s.records t queue block counts h tt

-- ENQ is heard before the block landed
enq_before : (b : SentBlock) (q : QueueValue) (alternation : Alternation) (last : Reply)
    (s : SpoolValue)
    (rooms : Rooms) → NotLanded b q alternation last s.records (Outward m.Enq) →
    Keeps (Unanswered b) q s.records (enq_step (record { alternation = alternation; last = last }) s
    rooms)
enq_before b q alternation Ack0 s rooms h = (
  inl (record { front = h.front; counted = h.counted; reply = h.reply; flight = refl }),
  inl refl,
)
enq_before b q alternation Ack1 s rooms h = (
  inl (record { front = h.front; counted = h.counted; reply = h.reply; flight = refl }),
  inl refl,
)
enq_before b q alternation Nak s rooms h = (
  inl (record { front = h.front; counted = h.counted; reply = h.reply; flight = refl }),
  inl refl,
)
enq_before b q alternation Wack s rooms h = absurd h.reply
enq_before b q alternation Rvi s rooms h = absurd h.reply

ack_after : (x y : Alternation) → x ≡ y → IsReplyAfter (ack x) y
ack_after Odd Odd e = tt
ack_after Odd Even e = absurd (cc)
ack_after Even Odd e = absurd (cc)
ack_after Even Even e = tt

-- ENQ is heard after the block landed
enq_after : (b : SentBlock) (q : QueueValue) (alternation : Alternation) (last : Reply)
    (s : SpoolValue)
    (first after : Bool) → HasLanded b q alternation last s.records (Outward m.Enq) →
    Keeps (Unanswered b) q s.records
    (enq_step (record { alternation = alternation; last = last }) s
    (record { first = first; after = after }))
enq_after b q alternation Ack0 s first after h = (
  inr (record { front = h.front; counted = h.counted; reply = h.reply; flight = refl }),
  inl refl,
)
enq_after b q alternation Ack1 s first after h = (
  inr (record { front = h.front; counted = h.counted; reply = h.reply; flight = refl }),
  inl refl,
)
enq_after b q alternation Nak s first after h = absurd h.reply
enq_after b q alternation Rvi s first after h =
    (inr (record { front = h.front; counted = h.counted; reply = tt; flight = refl }), inl refl)
enq_after b q alternation Wack s true after h = (
  inr (record {
    front = h.front;
    counted = h.counted;
    reply =
        ack_after alternation b.alternation h.counted;
    flight = refl;
  }),
  inl refl,
)
enq_after b q alternation Wack s false after h =
    (inr (record { front = h.front; counted = h.counted; reply = tt; flight = refl }), inl refl)

ack_held : (x y : Alternation) → x ≡ y → IsReplyHeld (ack x) y
ack_held Odd Odd e = tt
ack_held Odd Even e = absurd (cc)
ack_held Even Odd e = absurd (cc)
ack_held Even Even e = tt

-- ENQ is heard while the sender is held
enq_held : (end_phase : Phase) (expected : Alternation) (q : QueueValue) (alternation : Alternation)
    (last : Reply) (s : SpoolValue) (first after : Bool)
    → IsHeld expected q alternation last s.records (Outward m.Enq) →
    let out =
    enq_step (record { alternation = alternation; last = last }) s
    (record { first = first; after = after }) in
    IsHeld expected q out.receiver.alternation out.receiver.last out.spool.records
    (reply_flight out.reply) × MovesAtReceiver end_phase (channel q s.records)
    (channel q out.spool.records)
enq_held p expected q alternation Ack0 s first after h =
    (record { front = h.front; counted = h.counted; reply = h.reply; flight = refl }, inl refl)
enq_held p expected q alternation Ack1 s first after h =
    (record { front = h.front; counted = h.counted; reply = h.reply; flight = refl }, inl refl)
enq_held p expected q alternation Nak s first after h = absurd h.reply
enq_held p expected q alternation Rvi s first after h = absurd h.reply
enq_held p expected q alternation Wack s true after h = (
  record {
    front = h.front;
    counted = h.counted;
    reply = ack_held alternation expected h.counted;
    flight = refl;
  },
  inl refl,
)
enq_held p expected q alternation Wack s false after h =
    (record { front = h.front; counted = h.counted; reply = tt; flight = refl }, inl refl)

-- what was on its way is lost
pub agree_still : (phase : Phase) (q : QueueValue) (alternation : Alternation) (last : Reply)
    (spooled : List (List ℕ)) (f : Flight) → Agree phase q alternation last spooled f
    → Agree phase q alternation last spooled Still
agree_still Idle q alternation last spooled f h = absurd h
agree_still (InDoubt k) q alternation last spooled f h = absurd h
agree_still (Held e x) q alternation last spooled f h =
    record { front = h.front; counted = h.counted; reply = h.reply; flight = tt }
agree_still (Unanswered b) q alternation last spooled f (inl h) =
    inl (record { front = h.front; counted = h.counted; reply = h.reply; flight = tt })
agree_still (Unanswered b) q alternation last spooled f (inr h) =
    inr (record { front = h.front; counted = h.counted; reply = h.reply; flight = tt })

-- a message that a sender sends: a text or ENQ
abbrev pub IsSenders : Message → Type 0
IsSenders (m.Text t) = Unit {0}
IsSenders m.Enq = Unit {0}
IsSenders _ = ⊥

flight_before : (q : QueueValue) (b : SentBlock) (last : Reply) (w : Message)
    → IsFlightBefore q b last (Outward w) → IsSenders w
flight_before q b last (m.Text t) h = tt
flight_before q b last m.Enq h = tt
flight_before q b last _ h = absurd h

flight_after : (last : Reply) (w : Message) → IsFlightAfter last (Outward w) → IsSenders w
flight_after last (m.Text t) h = tt
flight_after last m.Enq h = tt
flight_after last _ h = absurd h

-- in a bid the sender sends only texts and ENQ
pub outward_is_from_sender : (phase : Phase) (q : QueueValue) (alternation : Alternation) (last : Reply)
    (spooled : List (List ℕ)) (w : Message) → Agree phase q alternation last spooled (Outward w)
    → IsSenders w
outward_is_from_sender Idle q alternation last spooled w h = absurd h
outward_is_from_sender (InDoubt k) q alternation last spooled w h = absurd h
outward_is_from_sender (Held e x) q alternation last spooled w h = flight_after last w h.flight
outward_is_from_sender (Unanswered b) q alternation last spooled w (inl h) = flight_before q b last w h.flight
outward_is_from_sender (Unanswered b) q alternation last spooled w (inr h) = flight_after last w h.flight

-- a text or ENQ is not heard as EOT
pub no_call : (w v : Message) → IsSenders w → IsCallCutShort w v → ⊥
no_call (m.Text t) v s e = e
no_call m.Enq v s e = e
no_call _ v s e = s

-- a whole transmission is heard
whole_keeps : RecordsBack
    → (phase : Phase) (q : QueueValue) (alternation : Alternation) (last : Reply) (s : SpoolValue)
    (w : Message) (urgent first after : Bool) → IsQueue q → HasBlock phase
    → CountsOn phase (length (waiting q))
    → Agree phase q alternation last s.records (Outward w) →
    Keeps phase q s.records (heard_step (record { alternation = alternation; last = last }) s
    (Whole w) urgent
    (record { first = first; after = after }))
whole_keeps law Idle q alternation last s w urgent first after queue block counts h = absurd h
whole_keeps law (InDoubt k) q alternation last s w urgent first after queue block counts h =
    absurd h
whole_keeps law (Unanswered b) q alternation last s (m.Text t) urgent first after queue block counts
    (inl h) =
    text_keeps law b q alternation last s t urgent first after queue block counts h
whole_keeps law (Unanswered b) q alternation last s (m.Text t) urgent first after queue block counts
    (inr h) = absurd h.flight
whole_keeps law (Unanswered b) q alternation last s m.Enq urgent first after queue block counts
    (inl h) =
    enq_before b q alternation last s (record { first = first; after = after }) h
whole_keeps law (Unanswered b) q alternation last s m.Enq urgent first after queue block counts
    (inr h) =
    enq_after b q alternation last s first after h
whole_keeps law (Held e x) q alternation last s m.Enq urgent first after queue block counts h =
    enq_held (Held e x) x q alternation last s first after h
whole_keeps law (Held e x) q alternation last s (m.Text t) urgent first after queue block counts h =
    absurd h.flight
whole_keeps law (Unanswered b) q alternation last s w urgent first after queue block counts h =
    absurd (outward_is_from_sender (Unanswered b) q alternation last s.records w h)
whole_keeps law (Held e x) q alternation last s w urgent first after queue block counts h =
    absurd (outward_is_from_sender (Held e x) q alternation last s.records w h)

-- a damaged text is heard
spoiled_keeps : (phase : Phase) (q : QueueValue) (alternation : Alternation) (last : Reply)
    (s : SpoolValue) (w : Message) → IsTextMessage w
    → Agree phase q alternation last s.records (Outward w) →
    Agree phase q alternation Nak s.records (Back Nak)
spoiled_keeps Idle q alternation last s w f h = absurd h
spoiled_keeps (InDoubt k) q alternation last s w f h = absurd h
spoiled_keeps (Held e x) q alternation last s (m.Text t) f h = absurd h.flight
spoiled_keeps (Unanswered b) q alternation last s (m.Text t) f (inl h) =
    inl (record { front = h.front; counted = h.counted; reply = tt; flight = refl })
spoiled_keeps (Unanswered b) q alternation last s (m.Text t) f (inr h) = absurd h.flight
spoiled_keeps (Held e x) q alternation last s w f h = absurd f
spoiled_keeps (Unanswered b) q alternation last s w f h = absurd f

heard_keeps : RecordsBack
    → (phase : Phase) (q : QueueValue) (alternation : Alternation) (last : Reply) (s : SpoolValue)
    (w : Message) (h : Heard) (urgent first after : Bool)
    → InBid phase q alternation last s.records (Outward w) → IsFairlyHeard w h →
    Keeps phase q s.records (heard_step (record { alternation = alternation; last = last }) s h
    urgent
    (record { first = first; after = after }))
heard_keeps law phase q alternation last s w Noise urgent first after b f =
    (agree_still phase q alternation last s.records (Outward w) b.agree, inl refl)
heard_keeps law phase q alternation last s w Failed urgent first after b f =
    (spoiled_keeps phase q alternation last s w f b.agree, inl refl)
heard_keeps law phase q alternation last s w (Whole v) urgent first after b (inl e) =
    whole_keeps law phase q alternation last s v urgent first after b.queue b.block b.counts
    (subst (λ (x : Message). Agree phase q alternation last s.records (Outward x)) (sym e) b.agree)
heard_keeps law phase q alternation last s w (Whole v) urgent first after b (inr e) =
    absurd (no_call w v (outward_is_from_sender phase q alternation last s.records w b.agree) e)

-- the transmission of the sender is heard at the receiver, or nothing is
pub receiver_keeps : RecordsBack
    → (phase : Phase) (q : QueueValue) (r : ReceiverValue) (s : SpoolValue) (w : Message)
    (h : Option Heard) (urgent : Bool) (rooms : Rooms)
    → InBid phase q r.alternation r.last s.records (Outward w) → IsFair w h
    → Keeps phase q s.records (received r s h urgent rooms)
receiver_keeps law phase q r s w None urgent rooms b f =
    (agree_still phase q r.alternation r.last s.records (Outward w) b.agree, inl refl)
receiver_keeps law phase q r s w (Some h) urgent rooms b f =
    heard_keeps law phase q r.alternation r.last s w h urgent rooms.first rooms.after b f
