-- The sender's table (GA27-3004: replies and time-outs). The limits, doubt and its release are this
-- project's own. Every counter is incremented first and compared afterwards. What no line lists
-- changes nothing.
use Rattle.std.specs.Prelude.{◌≡◌, ℕ, ◌+◌, nat_lt, Bool, true, false, ◌==◌, ◌||◌, take, Option}
use Rattle.std.specs.Prelude.{None}
use Rattle.std.specs.Prelude.{Some, Result, Ok, Err, if◌then◌else◌}
use Rattle.bsc_frame.specs.declared.text.End.{End}
use Rattle.bsc_frame.specs.declared.text.End.TheVariants.{Etb, Etx}
use Rattle.bsc_frame.specs.Texts.{TextValue}
use Rattle.bsc_block.specs.Blocks.{block_text}
use Rattle.bsc_spool.specs.declared.Next.{Next}
use Rattle.bsc_spool.specs.Queue.{QueueValue, queue_of, with_known, waiting, next_block}
use Rattle.bsc_frame.specs.declared.message.Message.{Message}
use Rattle.bsc_bid.specs.Act.{Act, message_for, outcome_of}
use Rattle.bsc_bid.specs.Act as a
use Rattle.bsc_bid.specs.declared.outcome.Outcome.{Outcome}
use Rattle.bsc_bid.specs.declared.alternation.Alternation.{Alternation}
use Rattle.bsc_bid.specs.declared.alternation.Alternation.TheVariants.{Odd}
use Rattle.bsc_bid.specs.declared.phase.SentBlock.{SentBlock}
use Rattle.bsc_bid.specs.declared.phase.Phase.{Phase}
use Rattle.bsc_bid.specs.declared.phase.Phase.TheVariants.{Idle, Unanswered, Held, InDoubt}
use Rattle.bsc_frame.specs.declared.reply.Reply.{Reply}
use Rattle.bsc_bid.specs.declared.answer.Answer.{Answer}
use Rattle.bsc_bid.specs.declared.answer.Answer.TheVariants.{Accepted, Refused, Delayed}
use Rattle.bsc_bid.specs.declared.answer.Answer.TheVariants.{Interrupted}
use Rattle.bsc_bid.specs.declared.sender.ReleaseError.{ReleaseError}
use Rattle.bsc_bid.specs.declared.sender.ReleaseError.TheVariants.{NotInDoubt, CountMismatch}
use Rattle.bsc_bid.specs.Setup.{SetupValue}
use Rattle.bsc_bid.specs.Answer.{other, answer_of}

-- A sender: its settings, how far its bid is, the failures in a row, and the WACKs since the last
-- acknowledgement.
pub record SenderValue : Type 0 where
  pub setup : SetupValue
  pub phase : Phase
  pub failures : ℕ
  pub wacks : ℕ

-- The sender and its queue after a call, and what the sender does.
pub record SenderStep : Type 0 where
  pub sender : SenderValue
  pub queue : QueueValue
  pub act : Act

-- The sender and its queue after a call, what becomes of the bid, and the message that is left to
-- send.
pub record SenderAnswer : Type 0 where
  pub sender : SenderValue
  pub queue : QueueValue
  pub outcome : Outcome
  pub sent : Option Message

-- How a call reports what the sender does.
abbrev pub told : SenderStep → SenderAnswer
told step =
    record {
      sender = step.sender;
      queue = step.queue;
      outcome = outcome_of step.act;
      sent = message_for step.act;
    }

-- The call leaves and reports what this step says.
abbrev pub Tells : SenderValue → QueueValue → Outcome → Option Message → SenderStep → Type 0
Tells s q outcome sent step =
    record { sender = s; queue = q; outcome = outcome; sent = sent } ≡ told step

-- The sender with another phase.
abbrev pub with_phase : SenderValue → Phase → SenderValue
with_phase s phase = record s { phase = phase }

-- The sender with other counters.
abbrev pub with_counts : SenderValue → ℕ → ℕ → SenderValue
with_counts s failures wacks = record s { failures = failures; wacks = wacks }

-- Nothing changes, and nothing is sent.
abbrev pub unmoved : SenderValue → QueueValue → SenderStep
unmoved s q = record { sender = s; queue = q; act = a.Quiet }

-- The bid is over, and this phase is left.
abbrev pub over : SenderValue → QueueValue → Phase → SenderStep
over s q left = record { sender = with_phase s left; queue = q; act = a.Over }

-- The text of a block: the first of the waiting records.
abbrev pub text_of : QueueValue → SentBlock → TextValue
text_of q b = block_text q.format (take b.count (waiting q)) b.end

-- The next block is sent, with the counters at 0. If no record waits the bid is over; the
-- conditions of the calls exclude this.
abbrev pub sent_next : SenderValue → QueueValue → Alternation → Option Next → SenderStep
sent_next s q alternation None = over (with_counts s 0 0) q Idle
sent_next s q alternation (Some n) =
    let b : SentBlock = record { count = n.count; end = n.end; alternation = alternation } in
    let t : SenderValue = with_phase (with_counts s 0 0) (Unanswered b) in
    record { sender = t; queue = q; act = a.Send (text_of q b) }

-- A bid begins: the next block is unanswered, and ACK1 is expected.
abbrev pub begin_step : SenderValue → QueueValue → SenderStep
begin_step s q = sent_next s q Odd (next_block q)

-- The expected acknowledgement of a block with this end: after ETX the bid is over; after ETB the
-- next block is sent, which expects the other acknowledgement.
abbrev pub accepted : SenderValue → QueueValue → End → Alternation → SenderStep
accepted s q Etx alternation = over (with_counts s 0 0) q Idle
accepted s q Etb alternation = sent_next s q (other alternation) (next_block q)

-- One more failure: above the limit the bid ends and this phase is left; otherwise the sender does
-- this act.
abbrev pub failed : SenderValue → QueueValue → Phase → Act → SenderStep
failed s q left act =
    let t : SenderValue = with_counts s (s.failures + 1) s.wacks in
    if nat_lt s.setup.tries (s.failures + 1) then over t q left
    else record { sender = t; queue = q; act = act }

-- One more WACK: above the limit the bid ends; otherwise the sender is held and asks again.
abbrev pub delayed : SenderValue → QueueValue → End → Alternation → SenderStep
delayed s q end alternation =
    let t : SenderValue = with_counts s 0 (s.wacks + 1) in
    if nat_lt s.setup.waits (s.wacks + 1) then over t q Idle
    else record { sender = with_phase t (Held end alternation); queue = q; act = a.Enq }

-- A reply while a block is unanswered.
abbrev pub unanswered_step : SenderValue → QueueValue → SentBlock → Answer → SenderStep
unanswered_step s q b Accepted = accepted s (with_known q b.count) b.end b.alternation
unanswered_step s q b Refused = failed s q Idle (a.Send (text_of q b))
unanswered_step s q b Delayed = delayed s (with_known q b.count) b.end b.alternation
unanswered_step s q b Interrupted = over s (with_known q b.count) Idle

-- A reply while the sender is held.
abbrev pub held_step : SenderValue → QueueValue → End → Alternation → Answer → SenderStep
held_step s q end alternation Accepted = accepted s q end alternation
held_step s q end alternation Refused = failed s q Idle a.Enq
held_step s q end alternation Delayed = delayed s q end alternation
held_step s q end alternation Interrupted = over s q Idle

-- A reply in this phase.
abbrev pub answered_step : SenderValue → QueueValue → Phase → Reply → SenderStep
answered_step s q Idle r = unmoved s q
answered_step s q (InDoubt count) r = unmoved s q
answered_step s q (Unanswered b) r = unanswered_step s q b (answer_of b.alternation r)
answered_step s q (Held end alternation) r = held_step s q end alternation (answer_of alternation r)

-- A transmission is heard, with this reply or with none in it.
abbrev pub reply_step : SenderValue → QueueValue → Option Reply → SenderStep
reply_step s q None = unmoved s q
reply_step s q (Some r) = answered_step s q s.phase r

-- A silence in this phase, as the table has it.
abbrev pub silence_in : SenderValue → QueueValue → Phase → SenderStep
silence_in s q (Unanswered b) = failed s q (InDoubt b.count) a.Enq
silence_in s q (Held end alternation) = failed s q Idle a.Enq
silence_in s q Idle = unmoved s q
silence_in s q (InDoubt count) = unmoved s q

-- A silence.
abbrev pub silence_step : SenderValue → QueueValue → SenderStep
silence_step s q = silence_in s q s.phase

-- The phase once the bid is cut off.
abbrev pub cut_phase : Phase → Phase
cut_phase (Unanswered b) = InDoubt b.count
cut_phase (Held end alternation) = Idle
cut_phase Idle = Idle
cut_phase (InDoubt count) = InDoubt count

-- The sender of a station that begins again: no bid is in progress and both counters are at 0. An
-- unanswered block is in doubt.
abbrev pub restarted_sender : SenderValue → SenderValue
restarted_sender s = with_phase (with_counts s 0 0) (cut_phase s.phase)

-- Whether a block may have arrived or not, and the sender no longer asks.
abbrev pub is_in_doubt : Phase → Bool
is_in_doubt (InDoubt count) = true
is_in_doubt _ = false

-- What a release leaves, and its answer.
pub record ReleaseStep : Type 0 where
  pub sender : SenderValue
  pub queue : QueueValue
  pub answer : Result (Unit {0}) ReleaseError

-- This many records are known, and the doubt is over.
abbrev pub released : SenderValue → QueueValue → ℕ → ReleaseStep
released s q count =
    record { sender = with_phase s Idle; queue = queue_of q.format q.offered count; answer = Ok tt }

-- Nothing changes, and the release is refused.
abbrev pub not_released : SenderValue → QueueValue → ReleaseError → ReleaseStep
not_released s q error = record { sender = s; queue = q; answer = Err error }

-- A release in this phase.
abbrev pub release_in : SenderValue → QueueValue → Phase → ℕ → ReleaseStep
release_in s q (InDoubt k) count =
    if (count == q.known) || (count == (q.known + k)) then released s q count
    else not_released s q CountMismatch
release_in s q _ count = not_released s q NotInDoubt

-- A release: with a doubt about k records, the count of the other end is known or known + k.
abbrev pub release_step : SenderValue → QueueValue → ℕ → ReleaseStep
release_step s q count = release_in s q s.phase count
