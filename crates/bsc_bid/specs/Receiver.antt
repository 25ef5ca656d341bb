-- The receiver's table (GA27-3004: ACK0 and ACK1, NAK, ENQ, WACK and RVI). That a flag decides
-- whether RVI is sent is this project's own.
use Rattle.std.specs.Prelude.{◌≡◌, ℕ, Bool, true, false, not, List, ◌++◌, Option, None, Some}
use Rattle.std.specs.Prelude.{if◌then◌else◌}
use Rattle.bsc_frame.specs.declared.message.Message.TheVariants as m
use Rattle.bsc_frame.specs.declared.message.Heard.{Heard}
use Rattle.bsc_frame.specs.declared.message.Heard.TheVariants.{Whole, Failed}
use Rattle.bsc_frame.specs.Texts.{TextValue}
use Rattle.bsc_block.specs.Blocks.{records_in}
use Rattle.bsc_spool.specs.Spool.{SpoolValue, room_asked}
use Rattle.bsc_bid.specs.declared.alternation.Alternation.{Alternation}
use Rattle.bsc_bid.specs.declared.alternation.Alternation.TheVariants.{Even}
use Rattle.bsc_frame.specs.declared.reply.Reply.{Reply}
use Rattle.bsc_frame.specs.declared.reply.Reply.TheVariants.{Ack0, Nak, Wack, Rvi}
use Rattle.bsc_bid.specs.Answer.{other, ack}

-- A receiver: whether the number of blocks taken in this bid is even or odd, and the last reply.
pub record ReceiverValue : Type 0 where
  pub alternation : Alternation
  pub last : Reply

-- What is left after a transmission was heard, and the reply to it.
pub record ReceiverStep : Type 0 where
  pub receiver : ReceiverValue
  pub spool : SpoolValue
  pub reply : Option Reply

-- What the attempts to make room find: the first one, and whether there is room in the end.
pub record Rooms : Type 0 where
  pub first : Bool
  pub after : Bool

-- The first reply of a bid, with room or without.
abbrev pub first_reply : Bool → Reply
first_reply room = if room then Ack0 else Wack

-- The receiver of a bid that begins.
abbrev pub new_receiver : Bool → ReceiverValue
new_receiver room = record { alternation = Even; last = first_reply room }

-- A spool after these records were stored, with room left or without.
abbrev pub stored : SpoolValue → List (List ℕ) → Bool → SpoolValue
stored s rs room = record { records = s.records ++ rs; room = room; delays = s.delays }

-- Whether the reply is RVI.
abbrev pub is_interrupt : Reply → Bool
is_interrupt Rvi = true
is_interrupt _ = false

-- Whether the reply is WACK.
abbrev pub is_wack : Reply → Bool
is_wack Wack = true
is_wack _ = false

-- Whether the reply is NAK.
abbrev pub is_nak : Reply → Bool
is_nak Nak = true
is_nak _ = false

-- Whether RVI is sent.
abbrev pub sends_interrupt : Option Reply → Bool
sends_interrupt None = false
sends_interrupt (Some r) = is_interrupt r

-- A reply, which is the last one from now on.
abbrev pub replied : Alternation → SpoolValue → Reply → ReceiverStep
replied alternation s r =
    record { receiver = record { alternation = alternation; last = r }; spool = s; reply = Some r }

-- A text is taken: the reply is its acknowledgement, or WACK if no room is left for another text.
abbrev pub stored_text : ReceiverValue → SpoolValue → TextValue → Rooms → ReceiverStep
stored_text r s t rooms =
    replied (other r.alternation) (room_asked (stored (room_asked s true)
    (records_in t.units) rooms.after) rooms.after)
    (if rooms.after then ack (other r.alternation) else Wack)

-- A text is taken, and the reply is RVI.
abbrev pub taken_urgently : ReceiverValue → SpoolValue → TextValue → Rooms → ReceiverStep
taken_urgently r s t rooms = replied (other r.alternation) (stored (room_asked s true)
    (records_in t.units) rooms.after) Rvi

-- A text: the reply is NAK if there is no room; otherwise the text is taken. The reply is RVI if
-- the flag is set, but not twice in a row.
abbrev pub text_step : ReceiverValue → SpoolValue → TextValue → Bool → Rooms → ReceiverStep
text_step r s t urgent rooms =
    if rooms.first
    then (if urgent
    then (if is_interrupt r.last then stored_text r s t rooms else taken_urgently r s t rooms)
    else stored_text r s t rooms)
    else replied r.alternation (room_asked s false) Nak

-- ENQ: the last reply again; after WACK, the acknowledgement once there is room.
abbrev pub enq_step : ReceiverValue → SpoolValue → Rooms → ReceiverStep
enq_step r s rooms =
    if is_wack r.last
    then replied r.alternation (room_asked s rooms.first)
    (if rooms.first then ack r.alternation else Wack)
    else replied r.alternation s r.last

-- A transmission is heard.
abbrev pub heard_step : ReceiverValue → SpoolValue → Heard → Bool → Rooms → ReceiverStep
heard_step r s (Whole (m.Text t)) urgent rooms = text_step r s t urgent rooms
heard_step r s (Whole m.Enq) urgent rooms = enq_step r s rooms
heard_step r s Failed urgent rooms = replied r.alternation s Nak
heard_step r s _ urgent rooms = record { receiver = r; spool = s; reply = None }

-- What the attempts found, read from the state that they left: there was no room for a text exactly
-- if the last reply is NAK now.
abbrev pub rooms_left : Heard → Reply → SpoolValue → Rooms
rooms_left (Whole (m.Text t)) last s = record { first = not (is_nak last); after = s.room }
rooms_left _ last s = record { first = s.room; after = s.room }

-- The receiver, its spool and the reply are those of the table. If there was room, the first
-- attempt found it.
pub record Receives (r : ReceiverValue) (s : SpoolValue) (h : Heard) (urgent : Bool)
    (out : ReceiverStep) : Type 0 where
  pub row : out ≡ heard_step r s h urgent (rooms_left h out.receiver.last out.spool)
  pub room : s.room ≡ true → (rooms_left h out.receiver.last out.spool).first ≡ true
