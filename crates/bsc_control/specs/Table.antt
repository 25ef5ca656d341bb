-- The control station's table (GA27-3004: polling, selection, and the control station's side of a
-- bid). What no row names changes nothing, and nothing is sent.
use Rattle.std.specs.Prelude.{◌≡◌, ℕ, ◌+◌, Bool, true, false, nat_lt, List, slice_index_or, Option}
use Rattle.std.specs.Prelude.{None, Some, option_map, if◌then◌else◌}
use Rattle.bsc_frame.specs.declared.message.Message.{Message}
use Rattle.bsc_frame.specs.declared.message.Message.TheVariants as m
use Rattle.bsc_frame.specs.declared.message.Heard.{Heard}
use Rattle.bsc_frame.specs.declared.message.Heard.TheVariants.{Whole}
use Rattle.bsc_bid.specs.declared.outcome.Outcome.{Outcome}
use Rattle.bsc_bid.specs.declared.outcome.Outcome.TheVariants as o
use Rattle.bsc_frame.specs.declared.reply.Reply.{Reply}
use Rattle.bsc_frame.specs.declared.reply.Reply.TheVariants.{Ack0, Nak, Wack, Rvi}
use Rattle.bsc_bid.specs.Act.{Act, message_for, outcome_of}
use Rattle.bsc_bid.specs.Terminal.{TerminalValue}
use Rattle.bsc_frame.specs.Replies.{reply_in}
use Rattle.bsc_bid.specs.Receiver.{ReceiverStep, Rooms, new_receiver, heard_step, rooms_left}
use Rattle.bsc_bid.specs.Receiver.{sends_interrupt}
use Rattle.bsc_bid.specs.Sender.{SenderStep, begin_step, reply_step, silence_step}
use Rattle.bsc_control.specs.declared.task.Replied.{Replied}
use Rattle.bsc_control.specs.declared.task.Replied.TheVariants.{Nothing, Uninterrupted, Interrupted}
use Rattle.bsc_control.specs.declared.task.Task.{Task}
use Rattle.bsc_control.specs.declared.task.Task.TheVariants.{AtRest, Selecting, Sending, Polling}
use Rattle.bsc_bid.specs.declared.way.Way.{Way}
use Rattle.bsc_bid.specs.declared.way.Way.TheVariants.{FromTerminal, ToTerminal}
use Rattle.bsc_control.specs.Peer.{PeerValue, outbound_at, with_outbound, outbound_after}
use Rattle.bsc_control.specs.Control.{ControlValue, ControlStep, peer, peer_at, current}
use Rattle.bsc_control.specs.Control.{terminal_of_entry, with_peer, with_current, quiet_step}
use Rattle.bsc_control.specs.Control.{answer_step}
use Rattle.bsc_control.specs.CallOrder.{Call, After, Start, Selection, Interruption, Poll}
use Rattle.bsc_control.specs.CallOrder.{due_call, passed_over, call_past}

-- the selection address of this number
abbrev pub select_address : TerminalValue → ℕ → List ℕ
select_address t s = slice_index_or t.selects s t.poll

-- what was replied in a poll once this reply, or none, is sent
abbrev pub replied_after : Replied → Option Reply → Replied
replied_after r None = r
replied_after r (Some Rvi) = Interrupted
replied_after Interrupted (Some _) = Interrupted
replied_after _ (Some _) = Uninterrupted

abbrev pub is_interrupted : Replied → Bool
is_interrupted Interrupted = true
is_interrupted _ = false

-- the polling address of an entry is called, with this count of failures: the receiver begins anew
abbrev pub poll_call_step : ControlValue → ℕ → ℕ → ControlStep
poll_call_step c place failures =
    let t : ℕ = terminal_of_entry c place in
    let p : PeerValue = peer_at c t in
    answer_step (record (with_peer c t (record p { receiver = new_receiver true })) {
      place = place;
      task = Polling Nothing;
      failures = failures;
      wacks = 0;
    }) (m.Call p.terminal.poll)

-- a selection address of an entry is called: the urgent flag is cleared
abbrev pub selection_call_step : ControlValue → ℕ → ℕ → ControlStep
selection_call_step c place s =
    let t : ℕ = terminal_of_entry c place in
    let p : PeerValue = peer_at c t in
    answer_step (record (with_peer c t (record p { urgent = false })) {
      place = place;
      task = Selecting s false;
      failures = 0;
      wacks = 0;
    }) (m.Call (select_address p.terminal s))

abbrev pub way_call_step : ControlValue → ℕ → Way → ControlStep
way_call_step c place FromTerminal = poll_call_step c place 0
way_call_step c place (ToTerminal s) = selection_call_step c place s

-- a call, with the counters at 0
abbrev pub make_call_step : ControlValue → Call → ControlStep
make_call_step c call = way_call_step c call.place call.way

-- no terminal in the poll list is polled: the station is at rest, with the counters at 0, and sends
-- nothing
abbrev pub rest_step : ControlValue → ControlStep
rest_step c = quiet_step (record c { task = AtRest; failures = 0; wacks = 0 })

-- a call is due, and this many entries are passed over, or no terminal is polled
abbrev pub call_past_step : ControlValue → Call → Option ℕ → ControlStep
call_past_step c call None = rest_step c
call_past_step c call (Some more) = make_call_step c (call_past c call (Some more))

-- the next call is made, if a terminal in the poll list is polled
abbrev pub next_call_step : ControlValue → After → ControlStep
next_call_step c after =
    call_past_step c (due_call c after) (passed_over c (due_call c after).place)

-- the outcome of a step of the sender, which left this message; once the bid is over, the next call
-- is made
abbrev pub performed : ControlValue → ℕ → Outcome → Option Message → After → ControlStep
performed c s o.Sends message after =
    record { control = record c { task = Sending s }; sent = message }
performed c s o.Over message after = next_call_step c after
performed c s o.Quiet message after = record { control = c; sent = message }

-- the sender acts
abbrev pub act_step : ControlValue → ℕ → Act → After → ControlStep
act_step c s act after = performed c s (outcome_of act) (message_for act) after

-- the sender to this selection address of the present terminal made a step
abbrev pub after_step : ControlValue → ℕ → SenderStep → ControlValue
after_step c s step = with_current c (with_outbound (peer c) s (outbound_after step))

-- the control station after this step of the sender to this address, and the message that it sends
abbrev pub bid_step : ControlValue → ℕ → SenderStep → After → ControlStep
bid_step c s step after = act_step (after_step c s step) s step.act after

-- what the next call comes after if this reply, or none, ends the bid to this address
abbrev pub after_bid : ℕ → Option Reply → After
after_bid s (Some Rvi) = Interruption
after_bid s _ = Selection s

-- a selection is answered
abbrev pub selecting_step : ControlValue → ℕ → Option Reply → ControlStep
selecting_step c s (Some Ack0) =
    bid_step c s (begin_step (outbound_at (peer c) s).sender (outbound_at (peer c) s).queue)
    (Selection s)
selecting_step c s (Some Nak) = next_call_step c (Selection s)
selecting_step c s (Some Wack) =
    if nat_lt c.setup.waits (c.wacks + 1) then next_call_step c (Selection s)
    else answer_step (record c { task = Selecting s true; failures = 0; wacks = c.wacks + 1 }) m.Enq
selecting_step c s _ = quiet_step c

-- the receiver replies; RVI clears the urgent flag
abbrev pub receive_step : ControlValue → Replied → ReceiverStep → ControlStep
receive_step c replied step =
    let p : PeerValue = peer c in
    record {
      control =
          record (with_current c (record p {
            receiver = step.receiver;
            spool = step.spool;
            urgent = if sends_interrupt step.reply then false else p.urgent;
          })) {
            task = Polling (replied_after replied step.reply);
          };
      sent = option_map m.Reply step.reply;
    }

-- a poll is answered
abbrev pub polling_step : ControlValue → Replied → Heard → Rooms → ControlStep
polling_step c replied (Whole m.Eot) rooms = next_call_step c (Poll (is_interrupted replied))
polling_step c replied h rooms =
    receive_step c replied (heard_step (peer c).receiver (peer c).spool h (peer c).urgent rooms)

-- the table: what is heard
abbrev pub task_step : ControlValue → Task → Heard → Rooms → ControlStep
task_step c AtRest h rooms = quiet_step c
task_step c (Selecting s enquired) h rooms = selecting_step c s (reply_in h)
task_step c (Sending s) h rooms =
    bid_step c s
    (reply_step (outbound_at (peer c) s).sender (outbound_at (peer c) s).queue (reply_in h))
    (after_bid s (reply_in h))
task_step c (Polling replied) h rooms = polling_step c replied h rooms

abbrev pub hear_step : ControlValue → Heard → Rooms → ControlStep
hear_step c h rooms = task_step c c.task h rooms

-- a call is repeated, or ENQ if ENQ was sent last
abbrev pub repeated : ControlValue → ℕ → Bool → Message
repeated c s true = m.Enq
repeated c s false = m.Call (select_address (peer c).terminal s)

-- the table: a silence during this task
abbrev pub silence_in : ControlValue → Task → ControlStep
silence_in c AtRest = next_call_step c Start
silence_in c (Selecting s enquired) =
    if nat_lt c.setup.tries (c.failures + 1) then next_call_step c (Selection s)
    else answer_step (record c { failures = c.failures + 1 }) (repeated c s enquired)
silence_in c (Sending s) =
    bid_step c s (silence_step (outbound_at (peer c) s).sender (outbound_at (peer c) s).queue)
    (Selection s)
silence_in c (Polling Nothing) =
    if nat_lt c.setup.tries (c.failures + 1) then next_call_step c (Poll false)
    else poll_call_step c c.place (c.failures + 1)
silence_in c (Polling Uninterrupted) = next_call_step c (Poll false)
silence_in c (Polling Interrupted) = next_call_step c (Poll true)

-- the outcomes of the attempts to get room, as the polled terminal's receiver and spool show them
abbrev pub rooms_after : ControlValue → Heard → ControlValue → Rooms
rooms_after old h new =
    rooms_left h (peer_at new (current old)).receiver.last (peer_at new (current old)).spool

-- the receiver of the polled terminal hears this
abbrev pub IsReceived : Task → Heard → Type 0
IsReceived (Polling replied) (Whole m.Eot) = ⊥
IsReceived (Polling replied) h = Unit {0}
IsReceived task h = ⊥

-- The control station and the message that it sends are those of the table. If there was room, the
-- first attempt found it.
pub record Hears (old : ControlValue) (h : Heard) (new : ControlValue) (sent : Option Message)
    : Type 0 where
  pub row : record { control = new; sent = sent } ≡ hear_step old h (rooms_after old h new)
  pub room : IsReceived old.task h → (peer old).spool.room ≡ true
      → (rooms_after old h new).first ≡ true

-- the control station and the message that it sends are those of the table for a silence
abbrev pub ActsOnSilence : ControlValue → ControlValue → Option Message → Type 0
ActsOnSilence old new sent = record { control = new; sent = sent } ≡ silence_in old old.task
