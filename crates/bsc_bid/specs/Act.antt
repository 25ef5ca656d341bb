-- What a sender does on a call (GA27-3004: a block of text, or ENQ), and how the call reports it:
-- by what becomes of the bid, and by the message that it leaves.
use Rattle.std.specs.Prelude.{Option, None, Some}
use Rattle.bsc_frame.specs.declared.message.Message.{Message}
use Rattle.bsc_frame.specs.declared.message.Message.TheVariants as m
use Rattle.bsc_frame.specs.Texts.{TextValue}
use Rattle.bsc_bid.specs.declared.outcome.Outcome.{Outcome}
use Rattle.bsc_bid.specs.declared.outcome.Outcome.TheVariants as o

-- An act: the sender transmits this block; it transmits ENQ, which asks for the last reply again;
-- its bid is over; or it transmits nothing.
pub data Act : Type 0 where
  Send : (text : TextValue) → Act
  Enq : Act
  Over : Act
  Quiet : Act

-- The message of an act, if the sender has one to send. If its bid is over, the station decides
-- what is sent.
abbrev pub message_for : Act → Option Message
message_for (Send t) = Some (m.Text t)
message_for Enq = Some m.Enq
message_for Over = None
message_for Quiet = None

-- What becomes of the bid by an act.
abbrev pub outcome_of : Act → Outcome
outcome_of (Send t) = o.Sends
outcome_of Enq = o.Sends
outcome_of Over = o.Over
outcome_of Quiet = o.Quiet
