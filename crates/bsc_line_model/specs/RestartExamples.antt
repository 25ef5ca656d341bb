-- What a station must not do as it begins again, on one line: forget its doubt, keep its block
-- unanswered and send it again, or leave its own text pending. And that a terminal still holds the
-- line once the control station that polled it restarted.
use Rattle.std.specs.Prelude.{◌≡◌, ℕ, true, false, IsTrue, List, [], Option, None, Some, Ok}
use Rattle.bsc_frame.specs.declared.text.End.TheVariants.{Etx}
use Rattle.bsc_frame.specs.declared.message.Message.TheVariants as m
use Rattle.bsc_frame.specs.declared.message.Heard.TheVariants.{Whole}
use Rattle.bsc_frame.specs.Texts.{TextValue}
use Rattle.bsc_spool.specs.Queue.{QueueValue, queue_of}
use Rattle.bsc_bid.specs.Act as a
use Rattle.bsc_bid.specs.declared.alternation.Alternation.TheVariants.{Odd}
use Rattle.bsc_bid.specs.declared.phase.SentBlock.{SentBlock}
use Rattle.bsc_bid.specs.declared.phase.Phase.{Phase}
use Rattle.bsc_bid.specs.declared.phase.Phase.TheVariants.{Idle, Unanswered, InDoubt}
use Rattle.bsc_bid.specs.Sender.{SenderValue, with_phase, text_of, begin_step, release_step}
use Rattle.bsc_bid.specs.Sender.{released}
use Rattle.bsc_bid.specs.Receiver.{new_receiver, heard_step}
use Rattle.bsc_tributary.specs.declared.mode.Mode.{Mode}
use Rattle.bsc_tributary.specs.declared.mode.Mode.TheVariants as mode
use Rattle.bsc_bid.specs.declared.way.Way.TheVariants.{FromTerminal}
use Rattle.bsc_control.specs.declared.task.Replied.TheVariants.{Nothing}
use Rattle.bsc_control.specs.declared.task.Task.TheVariants.{AtRest, Polling}
use Rattle.bsc_control.specs.Peer.{no_outbound}
use Rattle.bsc_bid.specs.declared.speaker.Speaker.TheVariants.{Control, Terminal}
use Rattle.bsc_line_model.specs.declared.transmission.Transmission.{Transmission}
use Rattle.bsc_line_model.specs.Line.{LineValue, terminal_at, with_terminal, with_control}
use Rattle.bsc_line_model.specs.Restarts.{Restarts}
use Rattle.bsc_line_model.specs.Holding.{HoldsOnlyIfPolled}
use Rattle.bsc_line_model.specs.Headline.{ArrivesInOrder}
use Rattle.bsc_line_model.specs.Examples.{both_records, spool_with, example, before_arrivals}

-- a queue of the usual format with both records waiting, a sender in this phase, and the one block
-- that it sends
abbrev pub both_waiting : QueueValue
both_waiting = queue_of (record { full = 80; block_chars = 400 }) both_records 0

abbrev pub sender_in : Phase → SenderValue
sender_in phase = with_phase no_outbound.sender phase

abbrev pub both_block : SentBlock
both_block = record { count = 2; end = Etx; alternation = Odd }

abbrev pub both_text : TextValue
both_text = text_of both_waiting both_block

-- the terminal's text
abbrev pub its_text : Transmission
its_text = record { speaker = Terminal 0; message = m.Text both_text }

-- the line of the examples while the control station polls: the terminal has this mode and this
-- phase and knows of no arrival, this is pending, and these records arrived from it
abbrev pub polled_line : Option Transmission → List (List ℕ) → Mode → Phase → LineValue
polled_line pending arrived mode phase =
    let l : LineValue = example (Polling Nothing) pending (Some (0, FromTerminal)) 0 arrived [] in
    with_terminal l 0 (record (terminal_at l 0) {
      mode = mode;
      sender = sender_in phase;
      queue = both_waiting;
    })

-- what has arrived once the control station has heard the terminal's text in a poll, too
abbrev pub with_text_heard : List (List ℕ) → List (List ℕ)
with_text_heard arrived =
    (heard_step (new_receiver true) (spool_with arrived) (Whole (m.Text both_text)) false
    (record { first = true; after = true })).spool.records

-- the terminal begins again while its text is pending: it is in doubt about both records, and the
-- text is lost
abbrev pub RestartDoubts : Type 0
RestartDoubts =
    Restarts (polled_line (Some its_text) [] mode.Sending (Unanswered both_block)) (Terminal 0)
    (Ok tt) (polled_line None [] mode.Control (InDoubt 2))

-- on this line the records arrived in order, and the terminal may count what it knows
abbrev pub IsInOrder : LineValue → Type 0
IsInOrder l = ArrivesInOrder before_arrivals l [] 0 FromTerminal

-- if both records arrived, the terminal in doubt is right
abbrev pub DoubtIsRight : Type 0
DoubtIsRight = IsInOrder (polled_line None both_records mode.Control (InDoubt 2))

-- and one that forgot its doubt is not: it counts none of them
abbrev pub NoDoubtIsForgotten : Type 0
NoDoubtIsForgotten = ¬ IsInOrder (polled_line None both_records mode.Control Idle)

-- if both arrived and the terminal sends its block again, it arrives twice
abbrev pub NoBlockIsSentAgain : Type 0
NoBlockIsSentAgain =
    ¬ IsInOrder
    (polled_line None (with_text_heard both_records) mode.Sending (Unanswered both_block))

-- If the text stays pending: its doubt is released with the count of before, and then the text
-- arrives. The terminal counts none of the records, and its next text is the same one, so that they
-- arrive twice.
pub record NoTextIsHeardLate : Type 0 where
  pub release : release_step (sender_in (InDoubt 2)) both_waiting 0
      ≡ released (sender_in (InDoubt 2)) both_waiting 0
  pub miscounted : ¬ IsInOrder (polled_line None (with_text_heard []) mode.Control Idle)
  pub next_text : (begin_step (sender_in Idle) both_waiting).act ≡ a.Send both_text
  pub doubled : ¬ IsInOrder
      (polled_line None (with_text_heard (with_text_heard [])) mode.Sending (Unanswered both_block))

-- the line while the text of the polled terminal is pending, and the same line with the control
-- station at rest
abbrev pub sending_line : LineValue
sending_line = polled_line (Some its_text) [] mode.Sending (Unanswered both_block)

abbrev pub resting_line : LineValue
resting_line = with_control sending_line (record sending_line.control { task = AtRest })

-- The terminal holds the line and is polled. The control station restarts: the line is still
-- trusted, and the terminal holds it and is not polled.
pub record NeedsNoRestart : Type 0 where
  pub before : HoldsOnlyIfPolled sending_line
  pub restarts : Restarts sending_line Control (Ok tt) resting_line
  pub trusted : IsTrue resting_line.trusted
  pub after : ¬ HoldsOnlyIfPolled resting_line
