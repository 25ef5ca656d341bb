-- How the two ends of a bid agree from step to step. Every step keeps what is stated here; the laws
-- of one bid and of the line rest on it. A block has landed once its records are spooled.
use Rattle.std.specs.Prelude.{◌≡◌, ◌⊎◌, ℕ, ◌+◌, List, length, take, Option, None, Some}
use Rattle.bsc_frame.specs.declared.message.Message.{Message}
use Rattle.bsc_frame.specs.declared.message.Message.TheVariants as m
use Rattle.bsc_spool.specs.Queue.{QueueValue, IsQueue, waiting}
use Rattle.bsc_bid.specs.Act.{Act}
use Rattle.bsc_bid.specs.Act as a
use Rattle.bsc_bid.specs.declared.alternation.Alternation.{Alternation}
use Rattle.bsc_bid.specs.declared.alternation.Alternation.TheVariants.{Even, Odd}
use Rattle.bsc_frame.specs.declared.reply.Reply.{Reply}
use Rattle.bsc_frame.specs.declared.reply.Reply.TheVariants.{Ack0, Ack1, Nak, Wack, Rvi}
use Rattle.bsc_bid.specs.declared.phase.SentBlock.{SentBlock}
use Rattle.bsc_bid.specs.declared.phase.Phase.{Phase}
use Rattle.bsc_bid.specs.declared.phase.Phase.TheVariants.{Idle, Unanswered, Held, InDoubt}
use Rattle.bsc_bid.specs.Answer.{other}
use Rattle.bsc_bid.specs.Sender.{text_of}
use Rattle.bsc_bid.specs.Ready.{HasBlock, CountsOn}
use Rattle.bsc_bid.specs.Channel.{channel, IsSound}

-- What is on its way: nothing, a transmission of the sender, or a reply to it.
pub data Flight : Type 0 where
  Still : Flight
  Outward : (message : Message) → Flight
  Back : (reply : Reply) → Flight

-- The block has not landed: the receiver's last reply is the acknowledgement of the blocks before
-- it, or NAK.
abbrev pub IsReplyBefore : Reply → Alternation → Type 0
IsReplyBefore Ack0 Odd = Unit {0}
IsReplyBefore Ack1 Even = Unit {0}
IsReplyBefore Nak alternation = Unit {0}
IsReplyBefore _ _ = ⊥

-- What may be on its way before the block has landed: nothing, the block, ENQ, or the last reply.
abbrev pub IsFlightBefore : QueueValue → SentBlock → Reply → Flight → Type 0
IsFlightBefore q b last Still = Unit {0}
IsFlightBefore q b last (Outward (m.Text t)) = t ≡ text_of q b
IsFlightBefore q b last (Outward m.Enq) = Unit {0}
IsFlightBefore q b last (Outward _) = ⊥
IsFlightBefore q b last (Back r) = r ≡ last

-- The block has landed: the last reply is its acknowledgement, WACK or RVI.
abbrev pub IsReplyAfter : Reply → Alternation → Type 0
IsReplyAfter Ack1 Odd = Unit {0}
IsReplyAfter Ack0 Even = Unit {0}
IsReplyAfter Wack alternation = Unit {0}
IsReplyAfter Rvi alternation = Unit {0}
IsReplyAfter _ _ = ⊥

-- What may be on its way after the block has landed: nothing, ENQ, or the last reply.
abbrev pub IsFlightAfter : Reply → Flight → Type 0
IsFlightAfter last Still = Unit {0}
IsFlightAfter last (Outward m.Enq) = Unit {0}
IsFlightAfter last (Outward _) = ⊥
IsFlightAfter last (Back r) = r ≡ last

-- The sender is held: the last reply is WACK or the acknowledgement.
abbrev pub IsReplyHeld : Reply → Alternation → Type 0
IsReplyHeld Ack1 Odd = Unit {0}
IsReplyHeld Ack0 Even = Unit {0}
IsReplyHeld Wack alternation = Unit {0}
IsReplyHeld _ _ = ⊥

-- An unanswered block that has not landed.
pub record NotLanded (b : SentBlock) (q : QueueValue) (alternation : Alternation) (last : Reply)
    (spooled : List (List ℕ)) (f : Flight) : Type 0 where
  pub front : spooled ≡ take q.known q.offered
  pub counted : alternation ≡ other b.alternation
  pub reply : IsReplyBefore last b.alternation
  pub flight : IsFlightBefore q b last f

-- An unanswered block that has landed.
pub record HasLanded (b : SentBlock) (q : QueueValue) (alternation : Alternation) (last : Reply)
    (spooled : List (List ℕ)) (f : Flight) : Type 0 where
  pub front : spooled ≡ take (q.known + b.count) q.offered
  pub counted : alternation ≡ b.alternation
  pub reply : IsReplyAfter last b.alternation
  pub flight : IsFlightAfter last f

-- The sender is held: all records that landed are known.
pub record IsHeld (expected : Alternation) (q : QueueValue) (alternation : Alternation)
    (last : Reply) (spooled : List (List ℕ)) (f : Flight) : Type 0 where
  pub front : spooled ≡ take q.known q.offered
  pub counted : alternation ≡ expected
  pub reply : IsReplyHeld last expected
  pub flight : IsFlightAfter last f

-- The phase and queue of the sender agree with the alternation and last reply of the receiver, the
-- spooled records, and what is on its way.
abbrev pub Agree : Phase → QueueValue → Alternation → Reply → List (List ℕ) → Flight → Type 0
Agree Idle q alternation last spooled f = ⊥
Agree (InDoubt k) q alternation last spooled f = ⊥
Agree (Unanswered b) q alternation last spooled f =
    NotLanded b q alternation last spooled f ⊎ HasLanded b q alternation last spooled f
Agree (Held end expected) q alternation last spooled f =
    IsHeld expected q alternation last spooled f

-- A bid continues, and its ends agree.
pub record InBid (phase : Phase) (q : QueueValue) (alternation : Alternation) (last : Reply)
    (spooled : List (List ℕ)) (f : Flight) : Type 0 where
  pub queue : IsQueue q
  pub block : HasBlock phase
  pub counts : CountsOn phase (length (waiting q))
  pub agree : Agree phase q alternation last spooled f

-- The channel is sound, and the other end takes no part in a bid, whether or not the sender asks.
pub record IsResting (phase : Phase) (q : QueueValue) (spooled : List (List ℕ)) : Type 0 where
  pub queue : IsQueue q
  pub counts : CountsOn phase (length (waiting q))
  pub sound : IsSound phase (channel q spooled)

-- The bid continues, or it is over and nothing is on its way.
abbrev pub Continues : Phase → QueueValue → Alternation → Reply → List (List ℕ) → Flight → Type 0
Continues Idle q alternation last spooled f = IsResting Idle q spooled × (f ≡ Still)
Continues (InDoubt k) q alternation last spooled f = IsResting (InDoubt k) q spooled × (f ≡ Still)
Continues (Unanswered b) q alternation last spooled f =
    InBid (Unanswered b) q alternation last spooled f
Continues (Held end x) q alternation last spooled f =
    InBid (Held end x) q alternation last spooled f

-- A reply, if there is one, is on its way.
abbrev pub reply_flight : Option Reply → Flight
reply_flight None = Still
reply_flight (Some r) = Back r

-- What an act sends is on its way.
abbrev pub sent_flight : Act → Flight
sent_flight (a.Send t) = Outward (m.Text t)
sent_flight a.Enq = Outward m.Enq
sent_flight a.Over = Still
sent_flight a.Quiet = Still
