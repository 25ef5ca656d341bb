-- One bid: a sender and a receiver with one channel, turn by turn.
use Rattle.std.specs.Prelude.{◌≡◌, ◌≤◌, ℕ, Bool, List, [], ◌∷◌, length, Option, None, Some}
use Rattle.bsc_frame.specs.declared.message.Message.TheVariants as m
use Rattle.bsc_frame.specs.declared.message.Message.{Message}
use Rattle.bsc_frame.specs.declared.message.Heard.{Heard}
use Rattle.bsc_spool.specs.Queue.{QueueValue, with_offered, IsQueue, waiting}
use Rattle.bsc_spool.specs.Spool.{SpoolValue}
use Rattle.bsc_bid.specs.Act.{Act}
use Rattle.bsc_bid.specs.Act as a
use Rattle.bsc_frame.specs.declared.reply.Reply.{Reply}
use Rattle.bsc_bid.specs.declared.phase.Phase.TheVariants.{Idle}
use Rattle.bsc_bid.specs.Act.{message_for}
use Rattle.bsc_frame.specs.Replies.{reply_in}
use Rattle.bsc_bid.specs.Sender.{SenderValue, SenderStep, unmoved, begin_step, reply_step}
use Rattle.bsc_bid.specs.Sender.{silence_step}
use Rattle.bsc_bid.specs.Receiver.{ReceiverValue, ReceiverStep, Rooms, new_receiver, heard_step}
use Rattle.bsc_bid.specs.Channel.{Channel, channel, IsSound}
use Rattle.bsc_bid.specs.Fair.{IsFair}
use Rattle.std.specs.Prelude.{true}

-- The two ends of a bid, and the last act of the sender.
pub record Bid : Type 0 where
  pub sender : SenderValue
  pub queue : QueueValue
  pub receiver : ReceiverValue
  pub spool : SpoolValue
  pub act : Act

-- The channel of a bid.
abbrev pub channel_of : Bid → Channel
channel_of b = channel b.queue b.spool.records

-- The circumstances of one exchange: how the sender's transmission is heard, the urgent flag and
-- the room at the receiver, and how the reply is heard.
pub record Turn : Type 0 where
  pub heard : Option Heard
  pub urgent : Bool
  pub rooms : Rooms
  pub answer : Option Heard

-- The receiver hears the transmission, or nothing.
abbrev pub received : ReceiverValue → SpoolValue → Option Heard → Bool → Rooms → ReceiverStep
received r s None urgent rooms = record { receiver = r; spool = s; reply = None }
received r s (Some h) urgent rooms = heard_step r s h urgent rooms

-- The sender hears the reply, or nothing.
abbrev pub answered : SenderValue → QueueValue → Option Reply → Option Heard → SenderStep
answered s q (Some r) (Some h) = reply_step s q (reply_in h)
answered s q (Some r) None = unmoved s q
answered s q None h = unmoved s q

-- If the sender did nothing on the reply, it is told of a silence.
abbrev pub unless_quiet : SenderStep → Act → SenderStep
unless_quiet t a.Quiet = silence_step t.sender t.queue
unless_quiet t _ = t

-- What the receiver does in a turn.
abbrev pub receiver_in : Bid → Turn → ReceiverStep
receiver_in b t = received b.receiver b.spool t.heard t.urgent t.rooms

-- What the sender does on the reply, before any silence.
abbrev pub sender_in : Bid → Turn → SenderStep
sender_in b t = answered b.sender b.queue (receiver_in b t).reply t.answer

-- The two ends after a turn.
abbrev pub after_turn : Bid → Turn → Bid
after_turn b t =
    let r = receiver_in b t in
    let s = unless_quiet (sender_in b t) (sender_in b t).act in
    record {
      sender = s.sender;
      queue = s.queue;
      receiver = r.receiver;
      spool = r.spool;
      act = s.act;
    }

-- What may be heard of what was sent; if nothing was sent, nothing is heard.
abbrev pub IsFairTo : Option Message → Option Heard → Type 0
IsFairTo (Some w) h = IsFair w h
IsFairTo None None = Unit {0}
IsFairTo None (Some h) = ⊥

-- The message of the reply, if there is one.
abbrev pub reply_message : Option Reply → Option Message
reply_message None = None
reply_message (Some r) = Some (m.Reply r)

-- A turn is taken while the bid continues, and every damaged transmission of it fails its check.
pub record IsFairTurn (b : Bid) (t : Turn) : Type 0 where
  pub sent : Message
  pub goes_on : message_for b.act ≡ Some sent
  pub fair_heard : IsFair sent t.heard
  pub fair_answer : IsFairTo (reply_message (receiver_in b t).reply) t.answer

-- An event of a bid: a turn, or a record that is offered between turns.
pub data BidEvent : Type 0 where
  Exchange : (turn : Turn) → BidEvent
  Offering : (offered_record : List ℕ) → BidEvent

-- The two ends after an event.
abbrev pub after_event : Bid → BidEvent → Bid
after_event b (Exchange t) = after_turn b t
after_event b (Offering r) = record b { queue = with_offered b.queue r }

-- A turn is fair, and an offered record is not longer than the full length.
abbrev pub MayCome : Bid → BidEvent → Type 0
MayCome b (Exchange t) = IsFairTurn b t
MayCome b (Offering r) = length r ≤ b.queue.format.full

-- Events, one after another.
abbrev pub AreEvents : Bid → List BidEvent → Bid → Type 0
AreEvents b [] c = c ≡ b
AreEvents b (e ∷ es) c = MayCome b e × AreEvents (after_event b e) es c

-- A bid begins: the sender is idle and not in doubt, records wait, all records that were spooled
-- are known, and the receiver begins with ACK0.
pub record IsNewBid (b : Bid) : Type 0 where
  pub sender : SenderValue
  pub idle : sender.phase ≡ Idle
  pub queue : IsQueue b.queue
  pub waits : 1 ≤ length (waiting b.queue)
  pub sound : IsSound Idle (channel_of b)
  pub receiver : b.receiver ≡ new_receiver true
  pub first : record { sender = b.sender; queue = b.queue; act = b.act } ≡ begin_step sender b.queue

-- A bid after some events.
pub record Reaches (b : Bid) (es : List BidEvent) (c : Bid) : Type 0 where
  pub new_bid : IsNewBid b
  pub events : AreEvents b es c
