-- Each step of a sender keeps the settings, the format and the offered records.
use Rattle.std.proofs.Common.{◌+◌, nat_lt, Option, None, Some, refl}
use Rattle.bsc_frame.specs.declared.text.End.{End}
use Rattle.bsc_frame.specs.declared.text.End.TheVariants.{Etb, Etx}
use Rattle.bsc_spool.specs.declared.queue.Next.{Next}
use Rattle.bsc_spool.specs.Queue.{QueueValue, with_known, next_block}
use Rattle.bsc_bid.specs.Act.{Act}
use Rattle.bsc_bid.specs.Act as a
use Rattle.bsc_bid.specs.declared.alternation.Alternation.{Alternation}
use Rattle.bsc_frame.specs.declared.reply.Reply.{Reply}
use Rattle.bsc_bid.specs.declared.answer.Answer.{Answer}
use Rattle.bsc_bid.specs.declared.answer.Answer.TheVariants.{Accepted, Refused, Delayed}
use Rattle.bsc_bid.specs.declared.answer.Answer.TheVariants.{Interrupted}
use Rattle.bsc_bid.specs.declared.phase.SentBlock.{SentBlock}
use Rattle.bsc_bid.specs.declared.phase.Phase.{Phase}
use Rattle.bsc_bid.specs.declared.phase.Phase.TheVariants.{Idle, Unanswered, Held, InDoubt}
use Rattle.bsc_bid.specs.Answer.{other, answer_of}
use Rattle.bsc_bid.specs.Sender.{SenderValue, text_of, sent_next, begin_step, accepted}
use Rattle.bsc_bid.specs.Sender.{failed, delayed, unanswered_step, held_step, answered_step}
use Rattle.bsc_bid.specs.Sender.{reply_step, silence_in, silence_step}
use Rattle.bsc_bid.specs.EachStep.{StepKeeps}
use Rattle.bsc_bid.proofs.Choice.{either_branch}

keeps_next : (s : SenderValue) (q : QueueValue) (x : Alternation) (n : Option Next)
    → StepKeeps s q (sent_next s q x n)
keeps_next s q x None = record { setup_is = refl; format_is = refl; offered_is = refl }
keeps_next s q x (Some n) = record { setup_is = refl; format_is = refl; offered_is = refl }

pub keeps_begin : (s : SenderValue) (q : QueueValue) → StepKeeps s q (begin_step s q)
keeps_begin s q = keeps_next s q _ (next_block q)

keeps_accepted : (s : SenderValue) (q : QueueValue) (e : End) (x : Alternation)
    → StepKeeps s q (accepted s q e x)
keeps_accepted s q Etx x = record { setup_is = refl; format_is = refl; offered_is = refl }
keeps_accepted s q Etb x = keeps_next s q (other x) (next_block q)

keeps_failed : (s : SenderValue) (q : QueueValue) (left : Phase) (act : Act)
    → StepKeeps s q (failed s q left act)
keeps_failed s q left act =
    either_branch (StepKeeps s q) (nat_lt s.setup.tries (s.failures + 1)) _ _
    (record { setup_is = refl; format_is = refl; offered_is = refl })
    (record { setup_is = refl; format_is = refl; offered_is = refl })

keeps_delayed : (s : SenderValue) (q : QueueValue) (e : End) (x : Alternation)
    → StepKeeps s q (delayed s q e x)
keeps_delayed s q e x =
    either_branch (StepKeeps s q) (nat_lt s.setup.waits (s.wacks + 1)) _ _
    (record { setup_is = refl; format_is = refl; offered_is = refl })
    (record { setup_is = refl; format_is = refl; offered_is = refl })

keeps_unanswered : (s : SenderValue) (q : QueueValue) (b : SentBlock) (x : Answer)
    → StepKeeps s q (unanswered_step s q b x)
keeps_unanswered s q b Accepted = keeps_accepted s (with_known q b.count) b.end b.alternation
keeps_unanswered s q b Refused = keeps_failed s q Idle (a.Send (text_of q b))
keeps_unanswered s q b Delayed = keeps_delayed s (with_known q b.count) b.end b.alternation
keeps_unanswered s q b Interrupted =
    record { setup_is = refl; format_is = refl; offered_is = refl }

keeps_held : (s : SenderValue) (q : QueueValue) (e : End) (y : Alternation) (x : Answer)
    → StepKeeps s q (held_step s q e y x)
keeps_held s q e y Accepted = keeps_accepted s q e y
keeps_held s q e y Refused = keeps_failed s q Idle a.Enq
keeps_held s q e y Delayed = keeps_delayed s q e y
keeps_held s q e y Interrupted = record { setup_is = refl; format_is = refl; offered_is = refl }

keeps_answered : (s : SenderValue) (q : QueueValue) (p : Phase) (r : Reply)
    → StepKeeps s q (answered_step s q p r)
keeps_answered s q Idle r = record { setup_is = refl; format_is = refl; offered_is = refl }
keeps_answered s q (InDoubt k) r = record { setup_is = refl; format_is = refl; offered_is = refl }
keeps_answered s q (Unanswered b) r = keeps_unanswered s q b (answer_of b.alternation r)
keeps_answered s q (Held end x) r = keeps_held s q end x (answer_of x r)

pub keeps_reply : (s : SenderValue) (q : QueueValue) (r : Option Reply)
    → StepKeeps s q (reply_step s q r)
keeps_reply s q None = record { setup_is = refl; format_is = refl; offered_is = refl }
keeps_reply s q (Some r) = keeps_answered s q s.phase r

keeps_silent : (s : SenderValue) (q : QueueValue) (p : Phase) → StepKeeps s q (silence_in s q p)
keeps_silent s q Idle = record { setup_is = refl; format_is = refl; offered_is = refl }
keeps_silent s q (InDoubt k) = record { setup_is = refl; format_is = refl; offered_is = refl }
keeps_silent s q (Unanswered b) = keeps_failed s q (InDoubt b.count) a.Enq
keeps_silent s q (Held end x) = keeps_failed s q Idle a.Enq

pub keeps_silence : (s : SenderValue) (q : QueueValue) → StepKeeps s q (silence_step s q)
keeps_silence s q = keeps_silent s q s.phase
