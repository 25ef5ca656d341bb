-- On the line a station never knows less than before, and loses no record.
use Rattle.std.proofs.Common.{◌≡◌, ◌∙◌, ◌≤◌, ◌+◌, ◌-◌, ℕ, nat_lt, length, drop, Option, Some, None}
use Rattle.std.proofs.Common.{refl, sym, ap, arith}
use Rattle.std.proofs.lemmas.List.{drop-drop, length-drop}
use Rattle.bsc_frame.specs.declared.text.End.{End}
use Rattle.bsc_frame.specs.declared.text.End.TheVariants.{Etb, Etx}
use Rattle.bsc_frame.specs.declared.reply.Reply.{Reply}
use Rattle.bsc_frame.specs.declared.reply.Reply.TheVariants.{Ack0, Ack1, Nak, Rvi, Wack}
use Rattle.bsc_spool.specs.declared.queue.Next.{Next}
use Rattle.bsc_spool.specs.Queue.{QueueValue, next_block, queue_of, waiting, with_known}
use Rattle.bsc_bid.specs.Act.{Act}
use Rattle.bsc_bid.specs.Act as a
use Rattle.bsc_bid.specs.declared.alternation.Alternation.{Alternation}
use Rattle.bsc_bid.specs.declared.alternation.Alternation.TheVariants.{Even, Odd}
use Rattle.bsc_bid.specs.declared.phase.SentBlock.{SentBlock}
use Rattle.bsc_bid.specs.declared.phase.Phase.{Phase}
use Rattle.bsc_bid.specs.declared.phase.Phase.TheVariants.{Held, Idle, InDoubt, Unanswered}
use Rattle.bsc_bid.specs.Answer.{answer_of, other}
use Rattle.bsc_bid.specs.Sender.{SenderStep, SenderValue, accepted, answered_step, begin_step}
use Rattle.bsc_bid.specs.Sender.{delayed, failed, held_step, reply_step, sent_next, silence_in}
use Rattle.bsc_bid.specs.Sender.{silence_step, text_of, unanswered_step}
use Rattle.bsc_bid.proofs.Choice.{either_branch}
use Rattle.bsc_bid.specs.Stored.{kept_of}
use Rattle.bsc_restarts.proofs.Ends.{SentGrows}

-- some more records are known, maybe none
abbrev pub KnowsMore : QueueValue → QueueValue → Type 0
KnowsMore old new = (count : ℕ) × (new ≡ with_known old count)

pub knows_as_many : (q : QueueValue) → KnowsMore q q
knows_as_many q =
    let none : q.known + 0 ≡ q.known = omega arith in
    (0, ap (λ k. queue_of q.format q.offered k) (sym none))

knows_more_then : (p q r : QueueValue) → KnowsMore p q → KnowsMore q r → KnowsMore p r
knows_more_then p q r (n, first) (m, second) =
    let sum : p.known + n + m ≡ p.known + (n + m) = omega arith in (
      n + m,
      second ∙ ap (λ (x : QueueValue). with_known x m) first
          ∙ ap (λ k. queue_of p.format p.offered k) sum,
    )

-- each step of a sender leaves such a queue
abbrev StepKnows : QueueValue → SenderStep → Type 0
StepKnows q step = KnowsMore q step.queue

next_knows : (s : SenderValue) (q : QueueValue) (x : Alternation) (n : Option Next)
    → StepKnows q (sent_next s q x n)
next_knows s q x None = knows_as_many q
next_knows s q x (Some n) = knows_as_many q

pub begin_knows : (s : SenderValue) (q : QueueValue) → KnowsMore q (begin_step s q).queue
begin_knows s q = next_knows s q Odd (next_block q)

accepted_knows : (s : SenderValue) (q : QueueValue) (e : End) (x : Alternation)
    → StepKnows q (accepted s q e x)
accepted_knows s q Etx x = knows_as_many q
accepted_knows s q Etb x = next_knows s q (other x) (next_block q)

failed_knows : (s : SenderValue) (q : QueueValue) (left : Phase) (act : Act)
    → StepKnows q (failed s q left act)
failed_knows s q left act =
    either_branch (StepKnows q) (nat_lt s.setup.tries (s.failures + 1)) _ _ (knows_as_many q)
    (knows_as_many q)

delayed_knows : (s : SenderValue) (q : QueueValue) (e : End) (x : Alternation)
    → StepKnows q (delayed s q e x)
delayed_knows s q e x =
    either_branch (StepKnows q) (nat_lt s.setup.waits (s.wacks + 1)) _ _ (knows_as_many q)
    (knows_as_many q)

known_accepted : (s : SenderValue) (q : QueueValue) (b : SentBlock)
    → StepKnows q (accepted s (with_known q b.count) b.end b.alternation)
known_accepted s q b =
    let known = with_known q b.count in
    knows_more_then q known (accepted s known b.end b.alternation).queue (b.count, refl)
    (accepted_knows s known b.end b.alternation)

known_delayed : (s : SenderValue) (q : QueueValue) (b : SentBlock)
    → StepKnows q (delayed s (with_known q b.count) b.end b.alternation)
known_delayed s q b =
    let known = with_known q b.count in
    knows_more_then q known (delayed s known b.end b.alternation).queue (b.count, refl)
    (delayed_knows s known b.end b.alternation)

unanswered_knows : (s : SenderValue) (q : QueueValue) (b : SentBlock) (x : Alternation) (r : Reply)
    → StepKnows q (unanswered_step s q b (answer_of x r))
unanswered_knows s q b Odd Ack1 = known_accepted s q b
unanswered_knows s q b Odd Ack0 = failed_knows s q Idle (a.Send (text_of q b))
unanswered_knows s q b Even Ack1 = failed_knows s q Idle (a.Send (text_of q b))
unanswered_knows s q b Even Ack0 = known_accepted s q b
unanswered_knows s q b x Nak = failed_knows s q Idle (a.Send (text_of q b))
unanswered_knows s q b x Wack = known_delayed s q b
unanswered_knows s q b x Rvi = (b.count, refl)

held_knows : (s : SenderValue) (q : QueueValue) (e : End) (y : Alternation) (x : Alternation)
    (r : Reply) → StepKnows q (held_step s q e y (answer_of x r))
held_knows s q e y Odd Ack1 = accepted_knows s q e y
held_knows s q e y Odd Ack0 = failed_knows s q Idle a.Enq
held_knows s q e y Even Ack1 = failed_knows s q Idle a.Enq
held_knows s q e y Even Ack0 = accepted_knows s q e y
held_knows s q e y x Nak = failed_knows s q Idle a.Enq
held_knows s q e y x Wack = delayed_knows s q e y
held_knows s q e y x Rvi = knows_as_many q

answered_knows : (s : SenderValue) (q : QueueValue) (p : Phase) (r : Reply)
    → StepKnows q (answered_step s q p r)
answered_knows s q Idle r = knows_as_many q
answered_knows s q (InDoubt k) r = knows_as_many q
answered_knows s q (Unanswered b) r = unanswered_knows s q b b.alternation r
answered_knows s q (Held end x) r = held_knows s q end x x r

pub reply_knows : (s : SenderValue) (q : QueueValue) (r : Option Reply)
    → KnowsMore q (reply_step s q r).queue
reply_knows s q None = knows_as_many q
reply_knows s q (Some r) = answered_knows s q s.phase r

silent_knows : (s : SenderValue) (q : QueueValue) (p : Phase) → StepKnows q (silence_in s q p)
silent_knows s q Idle = knows_as_many q
silent_knows s q (InDoubt k) = knows_as_many q
silent_knows s q (Unanswered b) = failed_knows s q (InDoubt b.count) a.Enq
silent_knows s q (Held end x) = failed_knows s q Idle a.Enq

pub silence_knows : (s : SenderValue) (q : QueueValue) → KnowsMore q (silence_step s q).queue
silence_knows s q = silent_knows s q s.phase

-- so what is to be kept of it grows
pub grows_if_knows : (s t : SenderValue) (q r : QueueValue) → KnowsMore q r
    → r.known - q.known ≤ length (waiting q) → SentGrows (kept_of s q) (waiting q) (kept_of t r) (waiting r)
grows_if_knows s t q r (count, is) there =
    let known : r.known ≡ q.known + count = ap (λ (x : QueueValue). x.known) is in
    let more : q.known + (r.known - q.known) ≡ r.known = omega (arith, known) in
    record {
      known = omega (arith, known);
      there = there;
      rest_is =
          ap (λ (x : QueueValue). drop r.known x.offered) is
          ∙ ap (λ k. drop k q.offered) (sym more)
          ∙ sym (drop-drop (r.known - q.known) q.known q.offered);
    }

-- those that are known since were waiting, if no more are known than were offered
pub were_waiting : (q r : QueueValue) → KnowsMore q r → r.known ≤ length r.offered
    → r.known - q.known ≤ length (waiting q)
were_waiting q r (count, is) few =
    omega (
      arith,
      few,
      ap (λ (x : QueueValue). x.known) is,
      ap (λ (x : QueueValue). length x.offered) is,
      length-drop q.known q.offered,
    )

pub none_known : (q : QueueValue) → q.known - q.known ≤ length (waiting q)
none_known q = omega arith
