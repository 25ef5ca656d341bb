-- The terminal's table (GA27-3004: polling, selection, control mode, and the tributary's side of a
-- bid). What no row names changes nothing, and nothing is sent.
use Rattle.std.specs.Prelude.{◌≡◌, ℕ, Bool, true, false, nat_eq, List, [], length, slice_index_or}
use Rattle.std.specs.Prelude.{slice_set, Option, None, Some, option_map, if◌then◌else◌}
use Rattle.bsc_frame.specs.declared.message.Message.{Message}
use Rattle.bsc_frame.specs.declared.message.Message.TheVariants as m
use Rattle.bsc_frame.specs.declared.reply.Reply.TheVariants.{Nak}
use Rattle.bsc_frame.specs.declared.message.Heard.{Heard}
use Rattle.bsc_frame.specs.declared.message.Heard.TheVariants.{Whole}
use Rattle.bsc_spool.specs.Queue.{QueueValue, waiting}
use Rattle.bsc_spool.specs.Spool.{SpoolValue, room_asked}
use Rattle.bsc_bid.specs.declared.outcome.Outcome.{Outcome}
use Rattle.bsc_bid.specs.declared.outcome.Outcome.TheVariants as o
use Rattle.bsc_bid.specs.Act.{Act, message_for, outcome_of}
use Rattle.bsc_bid.specs.Terminal.{TerminalValue}
use Rattle.bsc_frame.specs.Replies.{reply_in}
use Rattle.bsc_bid.specs.Receiver.{ReceiverValue, ReceiverStep, Rooms, new_receiver, first_reply}
use Rattle.bsc_bid.specs.Receiver.{heard_step, rooms_left, sends_interrupt}
use Rattle.bsc_bid.specs.Sender.{SenderValue, SenderStep, with_phase, begin_step, reply_step}
use Rattle.bsc_bid.specs.Sender.{silence_step, cut_phase, restarted_sender, is_in_doubt}
use Rattle.bsc_bid.specs.Sender.{release_step}
use Rattle.bsc_tributary.specs.declared.called.Called.{Called}
use Rattle.bsc_tributary.specs.declared.called.Called.TheVariants.{Polling, Selection, Other}
use Rattle.bsc_tributary.specs.declared.mode.Mode.{Mode}
use Rattle.bsc_tributary.specs.declared.mode.Mode.TheVariants.{Control, Receiving, Sending}
use Rattle.bsc_tributary.specs.Called.{called_as}

-- a terminal: its addresses, its mode, its two flags, the sender and the receiver of its bids, the
-- records that it has to send, and for each selection address the records that arrived
pub record TributaryValue : Type 0 where
  pub terminal : TerminalValue
  pub mode : Mode
  pub ready : Bool
  pub urgent : Bool
  pub sender : SenderValue
  pub receiver : ReceiverValue
  pub queue : QueueValue
  pub spools : List SpoolValue

abbrev pub tributary_of : TerminalValue → Mode → Bool → Bool → SenderValue → ReceiverValue
    → QueueValue → List SpoolValue → TributaryValue
tributary_of terminal mode ready urgent sender receiver queue spools =
    record {
      terminal = terminal;
      mode = mode;
      ready = ready;
      urgent = urgent;
      sender = sender;
      receiver = receiver;
      queue = queue;
      spools = spools;
    }

-- the terminal after a step, and the message that it sends
pub record TributaryStep : Type 0 where
  pub tributary : TributaryValue
  pub sent : Option Message

-- a spool into which nothing arrived
abbrev pub empty_spool : SpoolValue
empty_spool = record { records = []; room = false; delays = 0 }

-- the spool of this number
abbrev pub spool_at : List SpoolValue → ℕ → SpoolValue
spool_at spools s = slice_index_or spools s empty_spool

-- nothing is sent
abbrev pub quiet_step : TributaryValue → TributaryStep
quiet_step t = record { tributary = t; sent = None }

abbrev pub answer_step : TributaryValue → Message → TributaryStep
answer_step t message = record { tributary = t; sent = Some message }

-- the line is taken from the terminal: an unanswered block is cut off, and the mode is control mode
abbrev pub without_line : TributaryValue → TributaryValue
without_line t =
    record t { mode = Control; sender = with_phase t.sender (cut_phase t.sender.phase) }

-- the mode after an outcome of the sender's bid
abbrev pub mode_left : Outcome → Mode → Mode
mode_left o.Sends mode = Sending
mode_left o.Over mode = Control
mode_left o.Quiet mode = mode

-- the message that is sent if the sender left this one: a bid that is over is ended by EOT
abbrev pub message_left : Outcome → Option Message → Option Message
message_left o.Over message = Some m.Eot
message_left o.Sends message = message
message_left o.Quiet message = message

-- the mode after the sender's act
abbrev pub mode_after : Act → Mode → Mode
mode_after act mode = mode_left (outcome_of act) mode

-- the message of the sender's act
abbrev pub message_of_act : Act → Option Message
message_of_act act = message_left (outcome_of act) (message_for act)

-- the sender acts
abbrev pub act_step : TributaryValue → SenderStep → TributaryStep
act_step t step =
    record {
      tributary = record t {
        mode = mode_after step.act t.mode;
        sender = step.sender;
        queue = step.queue;
      };
      sent = message_of_act step.act;
    }

-- the receiver replies, with the spool of this number; a reverse interrupt clears the urgent flag
abbrev pub receive_step : TributaryValue → ℕ → ReceiverStep → TributaryStep
receive_step t s step =
    record {
      tributary = record t {
        receiver = step.receiver;
        spools = slice_set t.spools s step.spool;
        urgent = if sends_interrupt step.reply then false else t.urgent;
      };
      sent = option_map m.Reply step.reply;
    }

-- a call of the polling address: EOT if the terminal is in doubt or no record waits, else the first
-- block
abbrev pub poll_step : TributaryValue → TributaryStep
poll_step t =
    let d : TributaryValue = record (without_line t) { urgent = false } in
    if is_in_doubt d.sender.phase then answer_step d m.Eot
    else if nat_eq (length (waiting d.queue)) 0 then answer_step d m.Eot
    else act_step d (begin_step d.sender d.queue)

-- a call of the selection address of this number: NAK if the terminal is not ready, else a reply by
-- whether there is room
abbrev pub selection_step : TributaryValue → ℕ → Bool → TributaryStep
selection_step t s room =
    let d : TributaryValue = without_line t in
    let spools : List SpoolValue = slice_set t.spools s (room_asked (spool_at t.spools s) room) in
    if t.ready
    then answer_step
    (record d { mode = Receiving s; receiver = new_receiver room; spools = spools })
    (m.Reply (first_reply room))
    else answer_step d (m.Reply Nak)

-- a call
abbrev pub call_step : TributaryValue → Called → Rooms → TributaryStep
call_step t Polling rooms = poll_step t
call_step t (Selection s) rooms = selection_step t s rooms.first
call_step t Other rooms = quiet_step (without_line t)

-- a transmission that is neither a call nor EOT, in this mode
abbrev pub mode_step : TributaryValue → Mode → Heard → Rooms → TributaryStep
mode_step t Control h rooms = quiet_step t
mode_step t (Receiving s) h rooms =
    receive_step t s (heard_step t.receiver (spool_at t.spools s) h t.urgent rooms)
mode_step t Sending h rooms = act_step t (reply_step t.sender t.queue (reply_in h))

-- the table: what is heard
abbrev pub hear_step : TributaryValue → Heard → Rooms → TributaryStep
hear_step t (Whole m.Eot) rooms = quiet_step (without_line t)
hear_step t (Whole (m.Call address)) rooms = call_step t (called_as t.terminal address) rooms
hear_step t h rooms = mode_step t t.mode h rooms

-- the table: a silence in this mode
abbrev pub silence_in : TributaryValue → Mode → TributaryStep
silence_in t Control = quiet_step t
silence_in t (Receiving s) = quiet_step t
silence_in t Sending = act_step t (silence_step t.sender t.queue)

-- the spool that takes texts in this mode
abbrev pub spool_in : Mode → List SpoolValue → SpoolValue
spool_in (Receiving s) spools = spool_at spools s
spool_in _ spools = empty_spool

-- the outcomes of the attempts to get room, as the state that they left shows them
abbrev pub rooms_after : Heard → TributaryValue → Rooms
rooms_after h new = rooms_left h new.receiver.last (spool_in new.mode new.spools)

-- The terminal and the message that it sends are those of the table. If there was room, the first
-- attempt found it.
pub record Hears (old : TributaryValue) (h : Heard) (new : TributaryValue) (sent : Option Message)
    : Type 0 where
  pub row : record { tributary = new; sent = sent } ≡ hear_step old h (rooms_after h new)
  pub room : (s : ℕ) → new.mode ≡ Receiving s → (spool_at old.spools s).room ≡ true
      → (rooms_after h new).first ≡ true

-- the terminal and the message that it sends are those of the table for a silence
abbrev pub ActsOnSilence : TributaryValue → TributaryValue → Option Message → Type 0
ActsOnSilence old new sent = record { tributary = new; sent = sent } ≡ silence_in old old.mode

-- whether a terminal in this mode holds the line
abbrev pub holds : Mode → Bool
holds Control = false
holds (Receiving s) = false
holds Sending = true

-- the terminal after its doubt was released with this count, or the release was refused
abbrev pub after_release : TributaryValue → ℕ → TributaryValue
after_release t count =
    record t {
      sender = (release_step t.sender t.queue count).sender;
      queue = (release_step t.sender t.queue count).queue;
    }

-- the terminal after it began again: in control mode, ready and not urgent. It keeps the records
-- that it has to send and those that arrived, and an unanswered block is in doubt.
abbrev pub restarted : TributaryValue → TributaryValue
restarted t =
    record t {
      mode = Control;
      ready = true;
      urgent = false;
      sender = restarted_sender t.sender;
      receiver = new_receiver true;
    }

-- whether a terminal in this mode is in control mode
abbrev pub is_control_mode : Mode → Bool
is_control_mode Control = true
is_control_mode (Receiving s) = false
is_control_mode Sending = false
