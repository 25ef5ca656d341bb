-- Each step of a sender leaves the phase that fits its act.
use Rattle.std.proofs.Common.{◌≡◌, ◌+◌, nat_lt, Option, None, Some, refl, sym, subst}
use Rattle.bsc_frame.specs.declared.message.Heard.{Heard}
use Rattle.bsc_frame.specs.declared.text.End.{End}
use Rattle.bsc_frame.specs.declared.text.End.TheVariants.{Etb, Etx}
use Rattle.bsc_spool.specs.declared.queue.Next.{Next}
use Rattle.bsc_spool.specs.Queue.{QueueValue, with_known, next_block}
use Rattle.bsc_bid.specs.Act.{Act}
use Rattle.bsc_bid.specs.Act as a
use Rattle.bsc_bid.specs.declared.alternation.Alternation.{Alternation}
use Rattle.bsc_frame.specs.declared.reply.Reply.{Reply}
use Rattle.bsc_bid.specs.declared.answer.Answer.{Answer}
use Rattle.bsc_bid.specs.declared.answer.Answer.TheVariants.{Accepted, Refused, Delayed}
use Rattle.bsc_bid.specs.declared.answer.Answer.TheVariants.{Interrupted}
use Rattle.bsc_bid.specs.declared.phase.SentBlock.{SentBlock}
use Rattle.bsc_bid.specs.declared.phase.Phase.{Phase}
use Rattle.bsc_bid.specs.declared.phase.Phase.TheVariants.{Idle, Unanswered, Held, InDoubt}
use Rattle.bsc_frame.specs.Replies.{reply_in}
use Rattle.bsc_bid.specs.Answer.{other, answer_of}
use Rattle.bsc_bid.specs.Sender.{SenderValue, SenderStep, text_of, sent_next, accepted, failed}
use Rattle.bsc_bid.specs.Sender.{delayed, unanswered_step, held_step, answered_step, reply_step}
use Rattle.bsc_bid.specs.Sender.{silence_in, silence_step, begin_step}
use Rattle.bsc_bid.specs.Ready.{IsGoing, IsAtRest, FitsAct}
use Rattle.bsc_bid.specs.Bid.{answered, unless_quiet}
use Rattle.bsc_bid.proofs.Choice.{either_branch}

abbrev pub Fits : SenderValue → SenderStep → Type 0
Fits s t = FitsAct t.act s.phase t.sender.phase

fits_next : (s : SenderValue) (q : QueueValue) (x : Alternation) (n : Option Next)
    → Fits s (sent_next s q x n)
fits_next s q x None = tt
fits_next s q x (Some n) = tt

pub fits_begin : (s : SenderValue) (q : QueueValue) → Fits s (begin_step s q)
fits_begin s q = fits_next s q _ (next_block q)

not_quiet : (s : SenderValue) (q : QueueValue) (x : Alternation) (n : Option Next)
    → (sent_next s q x n).act ≡ a.Quiet → ⊥
not_quiet s q x None e = cc
not_quiet s q x (Some n) e = cc

-- a bid begins with a block, or is over at once
pub begin_not_quiet : (s : SenderValue) (q : QueueValue) → (begin_step s q).act ≡ a.Quiet → ⊥
begin_not_quiet s q = not_quiet s q _ (next_block q)

fits_accepted : (s : SenderValue) (q : QueueValue) (e : End) (x : Alternation)
    → Fits s (accepted s q e x)
fits_accepted s q Etx x = tt
fits_accepted s q Etb x = fits_next s q (other x) (next_block q)

fits_failed : (s : SenderValue) (q : QueueValue) (left : Phase) (act : Act) → IsAtRest left
    → FitsAct act s.phase s.phase → Fits s (failed s q left act)
fits_failed s q left act h k = either_branch (Fits s) (nat_lt s.setup.tries (s.failures + 1)) _ _ h k

fits_delayed : (s : SenderValue) (q : QueueValue) (e : End) (x : Alternation)
    → Fits s (delayed s q e x)
fits_delayed s q e x = either_branch (Fits s) (nat_lt s.setup.waits (s.wacks + 1)) _ _ tt tt

fits_unanswered : (s : SenderValue) (q : QueueValue) (b : SentBlock) (x : Answer)
    → IsGoing s.phase → Fits s (unanswered_step s q b x)
fits_unanswered s q b Accepted h = fits_accepted s (with_known q b.count) b.end b.alternation
fits_unanswered s q b Refused h = fits_failed s q Idle (a.Send (text_of q b)) tt h
fits_unanswered s q b Delayed h = fits_delayed s (with_known q b.count) b.end b.alternation
fits_unanswered s q b Interrupted h = tt

fits_held : (s : SenderValue) (q : QueueValue) (e : End) (y : Alternation) (x : Answer)
    → IsGoing s.phase → Fits s (held_step s q e y x)
fits_held s q e y Accepted h = fits_accepted s q e y
fits_held s q e y Refused h = fits_failed s q Idle a.Enq tt h
fits_held s q e y Delayed h = fits_delayed s q e y
fits_held s q e y Interrupted h = tt

fits_answered : (s : SenderValue) (q : QueueValue) (p : Phase) (r : Reply) → s.phase ≡ p
    → Fits s (answered_step s q p r)
fits_answered s q Idle r e = refl
fits_answered s q (InDoubt k) r e = refl
fits_answered s q (Unanswered b) r e =
    fits_unanswered s q b (answer_of b.alternation r) (subst IsGoing (sym e) tt)
fits_answered s q (Held end x) r e = fits_held s q end x (answer_of x r) (subst IsGoing (sym e) tt)

pub fits_reply : (s : SenderValue) (q : QueueValue) (r : Option Reply) → Fits s (reply_step s q r)
fits_reply s q None = refl
fits_reply s q (Some r) = fits_answered s q s.phase r refl

fits_silent : (s : SenderValue) (q : QueueValue) (p : Phase) → s.phase ≡ p
    → Fits s (silence_in s q p)
fits_silent s q Idle e = refl
fits_silent s q (InDoubt k) e = refl
fits_silent s q (Unanswered b) e =
    fits_failed s q (InDoubt b.count) a.Enq tt (subst IsGoing (sym e) tt)
fits_silent s q (Held end x) e = fits_failed s q Idle a.Enq tt (subst IsGoing (sym e) tt)

pub fits_silence : (s : SenderValue) (q : QueueValue) → Fits s (silence_step s q)
fits_silence s q = fits_silent s q s.phase refl

pub fits_heard : (s : SenderValue) (q : QueueValue) (r : Option Reply) (h : Option Heard)
    → Fits s (answered s q r h)
fits_heard s q None None = refl
fits_heard s q None (Some h) = refl
fits_heard s q (Some r) None = refl
fits_heard s q (Some r) (Some h) = fits_reply s q (reply_in h)

pub fits_settled : (s : SenderValue) (t : SenderStep) (x : Act) → t.act ≡ x → Fits s t
    → Fits s (unless_quiet t x)
fits_settled s t (a.Send b) e h = h
fits_settled s t a.Enq e h = h
fits_settled s t a.Over e h = h
fits_settled s t a.Quiet e h =
    let u : SenderStep = silence_step t.sender t.queue in
    let same : t.sender.phase ≡ s.phase =
    subst (λ (x : Act). FitsAct x s.phase t.sender.phase) e h in
    subst (λ (p : Phase). FitsAct u.act p u.sender.phase) same (fits_silence t.sender t.queue)
