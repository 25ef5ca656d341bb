-- Doubt begins exactly if the sender gives up on a silence with a block unanswered.
use Rattle.std.proofs.Common.{◌≡◌, ℕ, ◌+◌, ◌<◌, Bool, true, false, nat_lt, List, Option, None, Some}
use Rattle.std.proofs.Common.{refl, sym, subst, arith, if◌then◌else◌}
use Rattle.std.proofs.lemmas.Bool.Decides.{nat_tests}
use Rattle.bsc_frame.specs.declared.message.Heard.{Heard}
use Rattle.bsc_frame.specs.declared.text.End.{End}
use Rattle.bsc_frame.specs.declared.text.End.TheVariants.{Etb, Etx}
use Rattle.bsc_spool.specs.declared.queue.Next.{Next}
use Rattle.bsc_spool.specs.Queue.{QueueValue, with_known, next_block}
use Rattle.bsc_bid.specs.Act.{Act}
use Rattle.bsc_bid.specs.Act as a
use Rattle.bsc_bid.specs.declared.alternation.Alternation.{Alternation}
use Rattle.bsc_frame.specs.declared.reply.Reply.{Reply}
use Rattle.bsc_bid.specs.declared.answer.Answer.{Answer}
use Rattle.bsc_bid.specs.declared.answer.Answer.TheVariants.{Accepted, Refused, Delayed}
use Rattle.bsc_bid.specs.declared.answer.Answer.TheVariants.{Interrupted}
use Rattle.bsc_bid.specs.declared.phase.SentBlock.{SentBlock}
use Rattle.bsc_bid.specs.declared.phase.Phase.{Phase}
use Rattle.bsc_bid.specs.declared.phase.Phase.TheVariants.{Idle, Unanswered, Held, InDoubt}
use Rattle.bsc_frame.specs.Replies.{reply_in}
use Rattle.bsc_bid.specs.Answer.{other, answer_of}
use Rattle.bsc_bid.specs.Sender.{SenderValue, SenderStep, sent_next, accepted, delayed}
use Rattle.bsc_bid.specs.Sender.{unanswered_step, held_step, answered_step, reply_step, silence_in}
use Rattle.bsc_bid.specs.Sender.{is_in_doubt}
use Rattle.bsc_bid.specs.Bid.{answered, unless_quiet, receiver_in, sender_in}
use Rattle.bsc_bid.specs.OneBid.{GivesUpUnanswered, DoubtsAtSilence}
use Rattle.bsc_bid.specs.Agreement.{Flight, InBid}
use Rattle.bsc_bid.proofs.Choice.{either_branch}
use Rattle.bsc_bid.proofs.Turning.{LawsBelow, in_bid_while_sending, reached_holds}

-- a reply that is acted on leaves no doubt, and one that is not leaves the sender as it is
abbrev IsCertainBy : Act → SenderValue → SenderStep → Type 0
IsCertainBy a.Quiet s t = t.sender ≡ s
IsCertainBy _ s t = is_in_doubt t.sender.phase ≡ false

abbrev IsCertain : SenderValue → SenderStep → Type 0
IsCertain s t = IsCertainBy t.act s t

certain_next : (s : SenderValue) (q : QueueValue) (x : Alternation) (n : Option Next)
    → IsCertain s (sent_next s q x n)
certain_next s q x None = refl
certain_next s q x (Some n) = refl

certain_accepted : (s : SenderValue) (q : QueueValue) (e : End) (x : Alternation)
    → IsCertain s (accepted s q e x)
certain_accepted s q Etx x = refl
certain_accepted s q Etb x = certain_next s q (other x) (next_block q)

certain_delayed : (s : SenderValue) (q : QueueValue) (e : End) (x : Alternation)
    → IsCertain s (delayed s q e x)
certain_delayed s q e x = either_branch (IsCertain s) (nat_lt s.setup.waits (s.wacks + 1)) _ _ refl refl

certain_unanswered : (s : SenderValue) (q : QueueValue) (b : SentBlock) (x : Answer)
    → is_in_doubt s.phase ≡ false → IsCertain s (unanswered_step s q b x)
certain_unanswered s q b Accepted d = certain_accepted s (with_known q b.count) b.end b.alternation
certain_unanswered s q b Refused d =
    either_branch (IsCertain s) (nat_lt s.setup.tries (s.failures + 1)) _ _ refl d
certain_unanswered s q b Delayed d = certain_delayed s (with_known q b.count) b.end b.alternation
certain_unanswered s q b Interrupted d = refl

certain_held : (s : SenderValue) (q : QueueValue) (e : End) (y : Alternation) (x : Answer)
    → is_in_doubt s.phase ≡ false → IsCertain s (held_step s q e y x)
certain_held s q e y Accepted d = certain_accepted s q e y
certain_held s q e y Refused d =
    either_branch (IsCertain s) (nat_lt s.setup.tries (s.failures + 1)) _ _ refl d
certain_held s q e y Delayed d = certain_delayed s q e y
certain_held s q e y Interrupted d = refl

certain_answered : (s : SenderValue) (q : QueueValue) (p : Phase) (r : Reply)
    → is_in_doubt s.phase ≡ false → IsCertain s (answered_step s q p r)
certain_answered s q Idle r d = refl
certain_answered s q (InDoubt k) r d = refl
certain_answered s q (Unanswered b) r d = certain_unanswered s q b (answer_of b.alternation r) d
certain_answered s q (Held e x) r d = certain_held s q e x (answer_of x r) d

certain_reply : (s : SenderValue) (q : QueueValue) (r : Option Reply)
    → is_in_doubt s.phase ≡ false → IsCertain s (reply_step s q r)
certain_reply s q None d = refl
certain_reply s q (Some r) d = certain_answered s q s.phase r d

certain_heard : (s : SenderValue) (q : QueueValue) (r : Option Reply) (h : Option Heard)
    → is_in_doubt s.phase ≡ false → IsCertain s (answered s q r h)
certain_heard s q None None d = refl
certain_heard s q None (Some h) d = refl
certain_heard s q (Some r) None d = refl
certain_heard s q (Some r) (Some h) d = certain_reply s q (reply_in h) d

-- a bid in progress is not in doubt
certain_going : (p : Phase) (q : QueueValue) (x : Alternation) (last : Reply)
    (spooled : List (List ℕ)) (f : Flight) → InBid p q x last spooled f → is_in_doubt p ≡ false
certain_going Idle q x last spooled f i = refl
certain_going (InDoubt k) q x last spooled f i = absurd i.agree
certain_going (Unanswered b) q x last spooled f i = refl
certain_going (Held e y) q x last spooled f i = refl

-- if the chosen one of two steps leaves a doubt and the second does not, the first was chosen
first_of_two : (v : Bool) (x y : SenderStep) → is_in_doubt y.sender.phase ≡ false
    → is_in_doubt (if v then x else y).sender.phase ≡ true
    → (v ≡ true) × (is_in_doubt x.sender.phase ≡ true)
first_of_two true x y n d = (refl, d)
first_of_two false x y n d = absurd (cc (n, d))

second_out : (v : Bool) (x y : SenderStep) → v ≡ true → is_in_doubt x.sender.phase ≡ true
    → is_in_doubt (if v then x else y).sender.phase ≡ true
second_out true x y e d = d
second_out false x y e d = absurd (cc e)

-- giving up, in a phase
record GivesUp (s : SenderValue) (p : Phase) : Type 0 where
  pub block : SentBlock
  pub unanswered : p ≡ Unanswered block
  pub over : s.setup.tries < s.failures + 1

below_by : (n k : ℕ) → nat_lt n k ≡ true → n < k
below_by n k e = grind (arith, nat_tests)

test_by : (n k : ℕ) → n < k → nat_lt n k ≡ true
test_by n k h = grind (arith, nat_tests)

silent_doubt : (s : SenderValue) (q : QueueValue) (p : Phase) → is_in_doubt s.phase ≡ false
    → is_in_doubt p ≡ false → is_in_doubt (silence_in s q p).sender.phase ≡ true → GivesUp s p
silent_doubt s q Idle d c k = absurd (cc (d, k))
silent_doubt s q (InDoubt n) d c k = absurd (cc (d, k))
silent_doubt s q (Held e x) d c k =
    let none = (first_of_two (nat_lt s.setup.tries (s.failures + 1)) _ _ d k).1 in absurd (cc none)
silent_doubt s q (Unanswered b) d c k =
    record {
      block = b;
      unanswered = refl;
      over = below_by s.setup.tries (s.failures + 1)
          (first_of_two (nat_lt s.setup.tries (s.failures + 1)) _ _ d k).0;
    }

-- doubt after a turn, by what the sender did on the reply
doubt_by : (s : SenderValue) (t : SenderStep) (x : Act) → t.act ≡ x → IsCertainBy x s t
    → is_in_doubt s.phase ≡ false → is_in_doubt (unless_quiet t x).sender.phase ≡ true
    → (x ≡ a.Quiet) × GivesUp s s.phase
doubt_by s t (a.Send u) e c d k = absurd (cc (c, k))
doubt_by s t a.Enq e c d k = absurd (cc (c, k))
doubt_by s t a.Over e c d k = absurd (cc (c, k))
doubt_by s t a.Quiet e c d k = (
  refl,
  silent_doubt s t.queue s.phase d d
      (subst (λ (u : SenderValue). is_in_doubt (silence_in u t.queue u.phase).sender.phase ≡ true) c
      k),
)

-- if the sender gives up in this way, there is doubt
gives_up : (s : SenderValue) (t : SenderStep) (x : Act) (b : SentBlock) → x ≡ a.Quiet
    → IsCertainBy x s t → s.phase ≡ Unanswered b → s.setup.tries < s.failures + 1
    → is_in_doubt (unless_quiet t x).sender.phase ≡ true
gives_up s t (a.Send u) b e c p over = absurd (cc e)
gives_up s t a.Enq b e c p over = absurd (cc e)
gives_up s t a.Over b e c p over = absurd (cc e)
gives_up s t a.Quiet b e c p over =
    let there : is_in_doubt (silence_in s t.queue (Unanswered b)).sender.phase ≡ true =
    second_out (nat_lt s.setup.tries (s.failures + 1)) _ _
    (test_by s.setup.tries (s.failures + 1) over) refl in
    let here : is_in_doubt (silence_in s t.queue s.phase).sender.phase ≡ true =
    subst (λ (y : Phase). is_in_doubt (silence_in s t.queue y).sender.phase ≡ true) (sym p) there in
    subst (λ (u : SenderValue). is_in_doubt (silence_in u t.queue u.phase).sender.phase ≡ true)
    (sym c) here

pub doubts_at_silence : LawsBelow → DoubtsAtSilence
doubts_at_silence law b es c t h fair =
    let i = in_bid_while_sending c fair.sent fair.goes_on (reached_holds law b es c h) in
    let d : is_in_doubt c.sender.phase ≡ false =
    certain_going c.sender.phase c.queue c.receiver.alternation c.receiver.last c.spool.records _
    i in
    let k : IsCertain c.sender (sender_in c t) =
    certain_heard c.sender c.queue (receiver_in c t).reply t.answer d in (
      d,
      (
        λ e. let g : ((sender_in c t).act ≡ a.Quiet) × GivesUp c.sender c.sender.phase =
            doubt_by c.sender
            (sender_in c t) (sender_in c t).act refl k d e in
            record {
              block = g.1.block;
              unanswered = g.1.unanswered;
              silence = g.0;
              over =
                  g.1.over;
            },
        λ (g : GivesUpUnanswered c t). gives_up c.sender (sender_in c t)
            (sender_in c t).act g.block g.silence k g.unanswered g.over,
      ),
    )
