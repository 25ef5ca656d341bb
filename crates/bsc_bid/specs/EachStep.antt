-- What each single step of a bid keeps: if the ends agree before it, they agree after it.
use Rattle.std.specs.Prelude.{◌≡◌, ◌⊎◌, ◌≤◌, ℕ, Bool, List, length, Option, Ok}
use Rattle.bsc_frame.specs.declared.message.Message.{Message}
use Rattle.bsc_frame.specs.declared.message.Message.TheVariants as m
use Rattle.bsc_frame.specs.declared.message.Heard.{Heard}
use Rattle.bsc_block.specs.Format.{FormatValue}
use Rattle.bsc_spool.specs.Queue.{QueueValue, with_offered, waiting}
use Rattle.bsc_spool.specs.Spool.{SpoolValue}
use Rattle.bsc_bid.specs.Act.{Act}
use Rattle.bsc_bid.specs.Act as a
use Rattle.bsc_bid.specs.declared.alternation.Alternation.{Alternation}
use Rattle.bsc_bid.specs.declared.alternation.Alternation.TheVariants.{Even}
use Rattle.bsc_frame.specs.declared.reply.Reply.{Reply}
use Rattle.bsc_frame.specs.declared.reply.Reply.TheVariants.{Ack0}
use Rattle.bsc_bid.specs.declared.phase.Phase.{Phase}
use Rattle.bsc_bid.specs.declared.phase.Phase.TheVariants.{Idle, InDoubt}
use Rattle.bsc_bid.specs.Setup.{SetupValue}
use Rattle.bsc_bid.specs.Sender.{SenderValue, SenderStep, ReleaseStep, begin_step, reply_step}
use Rattle.bsc_bid.specs.Sender.{silence_step, release_step, restarted_sender}
use Rattle.bsc_bid.specs.Receiver.{ReceiverValue, ReceiverStep, Rooms}
use Rattle.bsc_bid.specs.Ready.{IsAtRest, FitsAct}
use Rattle.bsc_bid.specs.Channel.{channel, IsSound}
use Rattle.bsc_bid.specs.Fair.{IsTextMessage, IsFair}
use Rattle.bsc_bid.specs.Bid.{received, answered, IsFairTo, reply_message}
use Rattle.bsc_bid.specs.OneBid.{MovesAtReceiver, MovesAtSender}
use Rattle.bsc_bid.specs.Agreement.{Flight, Still, Outward, Back, InBid, IsResting, Continues}
use Rattle.bsc_bid.specs.Agreement.{reply_flight, sent_flight}

-- An act that ends the bid leaves the sender at rest.
abbrev pub IsEnded : Act → Phase → Type 0
IsEnded a.Over phase = IsAtRest phase
IsEnded _ phase = Unit {0}

-- What a step of the receiver leaves: a bid with its reply on the way, and a channel that moved as
-- it may.
pub record ReceiverAgrees (phase : Phase) (q : QueueValue) (spooled : List (List ℕ))
    (r : ReceiverStep) : Type 0 where
  pub bid : InBid phase q r.receiver.alternation r.receiver.last r.spool.records
      (reply_flight r.reply)
  pub moves : MovesAtReceiver phase (channel q spooled) (channel q r.spool.records)

-- What a step of the sender leaves: the bid continues with what it sent on the way, or it is over.
pub record SenderAgrees (q : QueueValue) (alternation : Alternation) (last : Reply)
    (spooled : List (List ℕ)) (s : SenderStep) : Type 0 where
  pub continues : Continues s.sender.phase s.queue alternation last spooled (sent_flight s.act)
  pub ended : IsEnded s.act s.sender.phase
  pub moves : MovesAtSender (channel q spooled) (channel s.queue spooled)

-- The receiver hears what the sender sent, or nothing.
abbrev pub HearingAgrees : Type 0
HearingAgrees =
    (phase : Phase) (q : QueueValue) (r : ReceiverValue) (s : SpoolValue) (sent : Message)
    (heard : Option Heard) (urgent : Bool) (rooms : Rooms) →
    InBid phase q r.alternation r.last s.records (Outward sent) → IsFair sent heard
    → ReceiverAgrees phase q s.records (received r s heard urgent rooms)

-- The sender hears the reply, or nothing.
abbrev pub AnsweringAgrees : Type 0
AnsweringAgrees =
    (s : SenderValue) (q : QueueValue) (alternation : Alternation) (last : Reply)
    (spooled : List (List ℕ)) (reply : Option Reply) (heard : Option Heard)
    → InBid s.phase q alternation last spooled (reply_flight reply)
    → IsFairTo (reply_message reply) heard
    → SenderAgrees q alternation last spooled (answered s q reply heard)

-- A silence comes to the sender, with nothing on the way.
abbrev pub SilenceAgrees : Type 0
SilenceAgrees =
    (s : SenderValue) (q : QueueValue) (alternation : Alternation) (last : Reply)
    (spooled : List (List ℕ)) → Continues s.phase q alternation last spooled Still
    → SenderAgrees q alternation last spooled (silence_step s q)

-- A bid begins, and the receiver begins with ACK0.
abbrev pub BeginAgrees : Type 0
BeginAgrees =
    (s : SenderValue) (q : QueueValue) (spooled : List (List ℕ)) → IsResting Idle q spooled
    → 1 ≤ length (waiting q) → SenderAgrees q Even Ack0 spooled (begin_step s q)

-- A record is offered during a bid.
abbrev pub OfferAgrees : Type 0
OfferAgrees =
    (phase : Phase) (q : QueueValue) (alternation : Alternation) (last : Reply)
    (spooled : List (List ℕ)) (f : Flight) (r : List ℕ) →
    length r ≤ q.format.full → InBid phase q alternation last spooled f
    → InBid phase (with_offered q r) alternation last spooled f

-- A record is offered while no bid continues.
abbrev pub OfferKeepsRest : Type 0
OfferKeepsRest =
    (phase : Phase) (q : QueueValue) (spooled : List (List ℕ)) (r : List ℕ)
    → length r ≤ q.format.full → IsResting phase q spooled
    → IsResting phase (with_offered q r) spooled

-- What the release of a doubt with the spooled count leaves.
pub record ReleaseAgrees (s : ReleaseStep) (spooled : List (List ℕ)) : Type 0 where
  pub answer : s.answer ≡ Ok tt
  pub idle : s.sender.phase ≡ Idle
  pub rest : IsResting Idle s.queue spooled

-- A release with the spooled count ends any doubt.
abbrev pub ReleaseKeepsRest : Type 0
ReleaseKeepsRest =
    (s : SenderValue) (q : QueueValue) (k : ℕ) (spooled : List (List ℕ)) → s.phase ≡ InDoubt k
    → IsResting (InDoubt k) q spooled
    → ReleaseAgrees (release_step s q (length spooled)) spooled

-- A silence comes to the sender, whether or not the other end takes part in the bid.
abbrev pub SilenceKeepsRest : Type 0
SilenceKeepsRest =
    (s : SenderValue) (q : QueueValue) (spooled : List (List ℕ)) → IsResting s.phase q spooled
    → IsResting (silence_step s q).sender.phase (silence_step s q).queue spooled

-- The station of the sender begins again.
abbrev pub RestartKeepsRest : Type 0
RestartKeepsRest =
    (s : SenderValue) (q : QueueValue) (spooled : List (List ℕ)) → IsResting s.phase q spooled
    → IsResting (restarted_sender s).phase q spooled

-- The other end takes no part in the bid any more: the channel stays sound.
abbrev pub AgreementRests : Type 0
AgreementRests =
    (phase : Phase) (q : QueueValue) (alternation : Alternation) (last : Reply)
    (spooled : List (List ℕ)) (f : Flight) → InBid phase q alternation last spooled f
    → IsResting phase q spooled

-- If the ends agree, the channel is sound.
abbrev pub AgreementIsSound : Type 0
AgreementIsSound =
    (phase : Phase) (q : QueueValue) (alternation : Alternation) (last : Reply)
    (spooled : List (List ℕ)) (f : Flight) → Continues phase q alternation last spooled f
    → IsSound phase (channel q spooled)

-- What was on its way is lost.
abbrev pub LossAgrees : Type 0
LossAgrees =
    (phase : Phase) (q : QueueValue) (alternation : Alternation) (last : Reply)
    (spooled : List (List ℕ)) (f : Flight) → InBid phase q alternation last spooled f
    → InBid phase q alternation last spooled Still

-- A bid that is in progress continues.
abbrev pub BidContinues : Type 0
BidContinues =
    (phase : Phase) (q : QueueValue) (alternation : Alternation) (last : Reply)
    (spooled : List (List ℕ)) (f : Flight) → InBid phase q alternation last spooled f
    → Continues phase q alternation last spooled f

-- If something from the sender is on the way, the bid is in progress.
abbrev pub SendingGoesOn : Type 0
SendingGoesOn =
    (phase : Phase) (q : QueueValue) (alternation : Alternation) (last : Reply)
    (spooled : List (List ℕ)) (sent : Message)
    → Continues phase q alternation last spooled (Outward sent)
    → InBid phase q alternation last spooled (Outward sent)

-- What the sender has on the way is a text or ENQ.
abbrev pub OutwardIsTextOrEnq : Type 0
OutwardIsTextOrEnq =
    (phase : Phase) (q : QueueValue) (alternation : Alternation) (last : Reply)
    (spooled : List (List ℕ)) (sent : Message)
    → InBid phase q alternation last spooled (Outward sent)
    → IsTextMessage sent ⊎ (sent ≡ m.Enq)

-- A reply on the way is the last one of the receiver.
abbrev pub ReplyIsLast : Type 0
ReplyIsLast =
    (phase : Phase) (q : QueueValue) (alternation : Alternation) (last reply : Reply)
    (spooled : List (List ℕ)) → InBid phase q alternation last spooled (Back reply) → reply ≡ last

-- Each step of a sender leaves the phase that fits its act.
pub record ActsFit : Type 0 where
  pub begin : (s : SenderValue) (q : QueueValue)
      → FitsAct (begin_step s q).act s.phase (begin_step s q).sender.phase
  pub reply : (s : SenderValue) (q : QueueValue) (r : Option Reply)
      → FitsAct (reply_step s q r).act s.phase (reply_step s q r).sender.phase
  pub silence : (s : SenderValue) (q : QueueValue)
      → FitsAct (silence_step s q).act s.phase (silence_step s q).sender.phase

-- The settings, the format and the offered records after a step.
pub record KeepsOffered (setup : SetupValue) (format : FormatValue) (offered : List (List ℕ))
    (t : SenderStep) : Type 0 where
  pub setup_is : t.sender.setup ≡ setup
  pub format_is : t.queue.format ≡ format
  pub offered_is : t.queue.offered ≡ offered

-- A step keeps the settings, the format and the offered records of the sender and the queue.
abbrev pub StepKeeps : SenderValue → QueueValue → SenderStep → Type 0
StepKeeps s q t = KeepsOffered s.setup q.format q.offered t

-- Each step of a sender keeps the settings, the format and the offered records.
pub record StepsKeep : Type 0 where
  pub begin : (s : SenderValue) (q : QueueValue) → StepKeeps s q (begin_step s q)
  pub reply : (s : SenderValue) (q : QueueValue) (r : Option Reply)
      → StepKeeps s q (reply_step s q r)
  pub silence : (s : SenderValue) (q : QueueValue) → StepKeeps s q (silence_step s q)
