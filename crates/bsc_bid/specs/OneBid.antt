-- The law of one bid: what holds of a sender and a receiver over every list of fair turns.
use Rattle.std.specs.Prelude.{◌≡◌, ◌⊎◌, ◌↔◌, ◌≤◌, ◌<◌, ◌+◌, ◌*◌, ℕ, Bool, true, false, nat_eq, List}
use Rattle.std.specs.Prelude.{[], ◌∷◌, length, take, Some, if◌then◌else◌}
use Rattle.bsc_frame.specs.declared.message.Message.{Message}
use Rattle.bsc_frame.specs.declared.message.Message.TheVariants as m
use Rattle.bsc_frame.specs.declared.message.Heard.TheVariants.{Whole}
use Rattle.bsc_frame.specs.Texts.{TextValue}
use Rattle.bsc_block.specs.Blocks.{records_in}
use Rattle.bsc_spool.specs.Queue.{waiting}
use Rattle.bsc_bid.specs.Act.{Act}
use Rattle.bsc_bid.specs.Act as a
use Rattle.bsc_bid.specs.declared.phase.SentBlock.{SentBlock}
use Rattle.bsc_bid.specs.declared.phase.Phase.{Phase}
use Rattle.bsc_bid.specs.declared.phase.Phase.TheVariants.{Idle, Unanswered}
use Rattle.bsc_bid.specs.Setup.{SetupValue}
use Rattle.bsc_bid.specs.Sender.{text_of, is_in_doubt, released, release_step}
use Rattle.bsc_bid.specs.Ready.{IsReady}
use Rattle.bsc_bid.specs.Channel.{Channel, channel, Nothing, Offer, Land, Learn, Makes, IsSound}
use Rattle.bsc_bid.specs.Fair.{IsTextMessage}
use Rattle.bsc_bid.specs.Act.{message_for}
use Rattle.bsc_bid.specs.Bid.{Bid, Turn, BidEvent, Exchange, Offering, channel_of, receiver_in}
use Rattle.bsc_bid.specs.Bid.{sender_in, after_turn, after_event, IsFairTurn, Reaches}

-- The sender sends only texts and ENQ.
abbrev pub SendsTextsAndEnq : Type 0
SendsTextsAndEnq =
    (b : Bid) (w : Message) → message_for b.act ≡ Some w → IsTextMessage w ⊎ (w ≡ m.Enq)

-- The text of a block, which is the unanswered one.
pub record CarriesBlock (b : Bid) (t : TextValue) : Type 0 where
  pub block : SentBlock
  pub unanswered : b.sender.phase ≡ Unanswered block
  pub text : t ≡ text_of b.queue block
  pub records : records_in t.units ≡ take block.count (waiting b.queue)

-- Each text that is sent has exactly the records of its block.
abbrev pub SendsItsBlocks : Type 0
SendsItsBlocks =
    (b : Bid) (es : List BidEvent) (c : Bid) (t : TextValue) → Reaches b es c
    → c.act ≡ a.Send t → CarriesBlock c t

-- Each text that is heard whole has exactly the records of its block.
abbrev pub HearsItsBlocks : Type 0
HearsItsBlocks =
    (b : Bid) (es : List BidEvent) (c : Bid) (turn : Turn) (t : TextValue) → Reaches b es c
    → IsFairTurn c turn → turn.heard ≡ Some (Whole (m.Text t)) → CarriesBlock c t

-- The unanswered block lands.
abbrev pub LandsBlock : Phase → Channel → Channel → Type 0
LandsBlock phase old new =
    (block : SentBlock) × (phase ≡ Unanswered block) × Makes (Land block.count) old new

-- When the receiver hears, nothing moves, or the unanswered block lands.
abbrev pub MovesAtReceiver : Phase → Channel → Channel → Type 0
MovesAtReceiver phase old new = Makes Nothing old new ⊎ LandsBlock phase old new

-- When the sender hears, nothing moves, or it learns which records were spooled.
abbrev pub MovesAtSender : Channel → Channel → Type 0
MovesAtSender old new = Makes Nothing old new ⊎ Makes Learn old new

-- The channel within a turn: the receiver has heard, and the sender has not.
abbrev pub channel_within : Bid → Turn → Channel
channel_within b t = channel b.queue (receiver_in b t).spool.records

-- A turn moves the channel at the receiver, and then at the sender.
pub record MovesInTurn (b : Bid) (t : Turn) : Type 0 where
  pub receiver : MovesAtReceiver b.sender.phase (channel_of b) (channel_within b t)
  pub sender : MovesAtSender (channel_within b t) (channel_of (after_turn b t))

-- Each turn makes only such moves. A block lands at most once, since it lands only if all spooled
-- records are known. It is learnt only after it landed, since the sender learns which records were
-- spooled.
abbrev pub OnlyMoves : Type 0
OnlyMoves =
    (b : Bid) (es : List BidEvent) (c : Bid) (t : Turn) → Reaches b es c → IsFairTurn c t
    → MovesInTurn c t

-- An offer adds its record and moves nothing else.
abbrev pub OffersMove : Type 0
OffersMove =
    (b : Bid) (r : List ℕ)
    → Makes (Offer r) (channel_of b) (channel_of (after_event b (Offering r)))

-- At each moment the queue has what the sender counts on, so that the conditions of its calls are
-- met.
abbrev pub StaysReady : Type 0
StaysReady = (b : Bid) (es : List BidEvent) (c : Bid) → Reaches b es c → IsReady c.sender c.queue

-- At each moment, before and after each event, the channel is sound.
abbrev pub StaysSound : Type 0
StaysSound =
    (b : Bid) (es : List BidEvent) (c : Bid) → Reaches b es c
    → IsSound c.sender.phase (channel_of c)

-- Within each turn, once the receiver has heard, the channel is sound too.
abbrev pub SoundWithinTurns : Type 0
SoundWithinTurns =
    (b : Bid) (es : List BidEvent) (c : Bid) (t : Turn) → Reaches b es c → IsFairTurn c t
    → IsSound c.sender.phase (channel_within c t)

-- When a bid has ended without doubt, all records that were spooled are known.
abbrev pub EndsKnowing : Type 0
EndsKnowing =
    (b : Bid) (es : List BidEvent) (c : Bid) → Reaches b es c → c.act ≡ a.Over
    → is_in_doubt c.sender.phase ≡ false
    → (c.sender.phase ≡ Idle) × (c.queue.known ≡ length c.spool.records)

-- The sender gives up on a silence with a block unanswered: nothing was acted on in the turn, and
-- one more failure exceeds the limit.
pub record GivesUpUnanswered (b : Bid) (t : Turn) : Type 0 where
  pub block : SentBlock
  pub unanswered : b.sender.phase ≡ Unanswered block
  pub silence : (sender_in b t).act ≡ a.Quiet
  pub over : b.sender.setup.tries < b.sender.failures + 1

-- No bid in progress is in doubt. Doubt begins exactly if the sender gives up in this way.
abbrev pub DoubtsAtSilence : Type 0
DoubtsAtSilence =
    (b : Bid) (es : List BidEvent) (c : Bid) (t : Turn) → Reaches b es c → IsFairTurn c t →
    (is_in_doubt c.sender.phase ≡ false) × ((is_in_doubt (after_turn c t).sender.phase ≡ true)
    ↔ GivesUpUnanswered c t)

-- A release with the spooled count succeeds, makes that count the known one, and ends the doubt.
abbrev pub ReleaseEndsDoubt : Type 0
ReleaseEndsDoubt =
    (b : Bid) (es : List BidEvent) (c : Bid) → Reaches b es c → is_in_doubt c.sender.phase ≡ true
    → release_step c.sender c.queue (length c.spool.records)
    ≡ released c.sender c.queue (length c.spool.records)

-- The number of turns among the events.
abbrev pub turn_count : List BidEvent → ℕ
turn_count [] = 0
turn_count (Exchange t ∷ es) = turn_count es + 1
turn_count (Offering r ∷ es) = turn_count es

-- A block was just begun: it is sent, and nothing has failed since.
abbrev pub is_begun : Act → ℕ → Bool
is_begun (a.Send t) failures = nat_eq failures 0
is_begun _ failures = false

-- The number of blocks that are begun in these events.
abbrev pub begun_in : Bid → List BidEvent → ℕ
begun_in b [] = 0
begun_in b (Exchange t ∷ es) =
    (if is_begun (after_turn b t).act (after_turn b t).sender.failures then 1 else 0)
    + begun_in (after_turn b t) es
begun_in b (Offering r ∷ es) = begun_in (after_event b (Offering r)) es

-- The maximum number of turns that a block takes.
abbrev pub most_turns : SetupValue → ℕ
most_turns setup = (setup.tries + 1) * (setup.waits + 1)

-- A bid in which this many blocks were begun, including the first one, takes at most this many
-- turns.
abbrev pub EndsSoon : Type 0
EndsSoon =
    (b : Bid) (es : List BidEvent) (c : Bid) → Reaches b es c
    → turn_count es ≤ (1 + begun_in b es) * most_turns b.sender.setup
