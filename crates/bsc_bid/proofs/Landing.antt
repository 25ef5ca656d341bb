-- What a sender does once its text has arrived, and what is known of its next block.
use Rattle.std.proofs.Common.{◌≡◌, inl, inr, ℕ, ◌+◌, ◌≤◌, List, [], length, take, Option, None}
use Rattle.std.proofs.Common.{Some, refl, sym, ◌∙◌, ap, subst, arith}
use Rattle.std.proofs.lemmas.List.{length-take-le}
use Rattle.bsc_frame.specs.declared.text.End.{End}
use Rattle.bsc_frame.specs.declared.text.End.TheVariants.{Etb, Etx}
use Rattle.bsc_spool.specs.declared.queue.Next.{Next}
use Rattle.bsc_spool.specs.Queue.{QueueValue, with_known, IsQueue, IsNext, waiting, next_block}
use Rattle.bsc_bid.specs.declared.alternation.Alternation.{Alternation}
use Rattle.bsc_bid.specs.declared.alternation.Alternation.TheVariants.{Even, Odd}
use Rattle.bsc_frame.specs.declared.reply.Reply.{Reply}
use Rattle.bsc_frame.specs.declared.reply.Reply.TheVariants.{Ack0, Ack1, Nak, Wack, Rvi}
use Rattle.bsc_bid.specs.declared.phase.SentBlock.{SentBlock}
use Rattle.bsc_bid.specs.declared.phase.Phase.TheVariants.{Idle, Unanswered}
use Rattle.bsc_bid.specs.Answer.{other, answer_of}
use Rattle.bsc_bid.specs.Sender.{SenderValue, SenderStep, over, sent_next, accepted, delayed}
use Rattle.bsc_bid.specs.Sender.{unanswered_step}
use Rattle.bsc_bid.specs.Ready.{AreWaiting}
use Rattle.bsc_bid.specs.Channel.{channel}
use Rattle.bsc_bid.specs.OneBid.{MovesAtSender}
use Rattle.bsc_bid.specs.Agreement.{Still, Back, IsReplyBefore, IsReplyAfter, HasLanded, InBid}
use Rattle.bsc_bid.specs.Agreement.{IsResting, Continues, sent_flight}
use Rattle.bsc_bid.proofs.Choice.{either_branch}
use Rattle.bsc_bid.proofs.Readiness.{counts_next, within_offered, is_queue_marked, still_waiting}
use Rattle.bsc_bid.proofs.Hearing.{count_of_block_fits}

-- what is known of the next block of a queue
pub record NextLaw : Type 0 where
  pub none : (q : QueueValue) → next_block q ≡ None → waiting q ≡ []
  pub some : (q : QueueValue) (n : Next) → IsQueue q → next_block q ≡ Some n → IsNext q n

pub record HasNext (q : QueueValue) : Type 0 where
  pub next : Next
  pub is : next_block q ≡ Some next
  pub fit : IsNext q next

next_by : NextLaw → (q : QueueValue) → IsQueue q → 1 ≤ length (waiting q) → (o : Option Next)
    → next_block q ≡ o → HasNext q
next_by law q h some None e = absurd (omega (arith, ap length (law.none q e)))
next_by law q h some (Some n) e = record { next = n; is = e; fit = law.some q n h e }

-- if records wait, there is a next block
pub has_next : NextLaw → (q : QueueValue) → IsQueue q → 1 ≤ length (waiting q) → HasNext q
has_next law q h some = next_by law q h some (next_block q) refl

-- what a step of the sender leaves: the bid continues or is over, and the channel moved as it may
abbrev pub Leaves : QueueValue → Alternation → Reply → List (List ℕ) → SenderStep → Type 0
Leaves q alternation last spooled t =
    Continues t.sender.phase t.queue alternation last spooled (sent_flight t.act)
    × MovesAtSender (channel q spooled)
    (channel t.queue spooled)

-- what a step of the sender leaves if it does not change the queue
abbrev pub LeavesQueue : QueueValue → Alternation → Reply → List (List ℕ) → SenderStep → Type 0
LeavesQueue q alternation last spooled t =
    Continues t.sender.phase t.queue alternation last spooled (sent_flight t.act) × (t.queue ≡ q)

-- all spooled records are known, and the bid is over
pub at_rest : (q : QueueValue) (spooled : List (List ℕ)) → IsQueue q
    → spooled ≡ take q.known q.offered → IsResting Idle q spooled × (Still ≡ Still)
at_rest q spooled h e =
    let known : q.known ≤ length q.offered = h.known in
    let long : length spooled ≡ q.known = ap length e ∙ length-take-le q.known q.offered known in (
      record {
        queue = h;
        counts = tt;
        sound =
            record { front = rw long e; known = omega arith; spooled = long };
      },
      refl,
    )

-- the next block is sent
pub next_keeps : NextLaw → (s : SenderValue) (q : QueueValue) (expected alternation : Alternation)
    (last : Reply) (spooled : List (List ℕ)) → IsQueue q → spooled ≡ take q.known q.offered
    → 1 ≤ length (waiting q) → alternation ≡ other expected → IsReplyBefore last expected →
    LeavesQueue q alternation last spooled (sent_next s q expected (next_block q))
next_keeps law s q expected alternation last spooled h front some counted reply =
    let n = has_next law q h some in
    rw n.is (
      record {
        queue = h;
        block = (n.fit.some, n.fit.few);
        counts = counts_next q n.next n.fit;
        agree = inl
            (record { front = front; counted = counted; reply = reply; flight = refl });
      },
      refl,
    )

-- the sender learns which records were spooled
sender_learns_spooled : (q : QueueValue) (k : ℕ) (spooled : List (List ℕ)) → q.known + k ≤ length q.offered
    → spooled ≡ take (q.known + k) q.offered
    → MovesAtSender (channel q spooled) (channel (with_known q k) spooled)
sender_learns_spooled q k spooled within e =
    let long : length spooled ≡ q.known + k = ap length e
    ∙ length-take-le (q.known + k) q.offered within in
    inr (ap (λ n. channel (record { format = q.format; offered = q.offered; known = n }) spooled)
    (sym long))

-- the queue stays
pub at_same : (q : QueueValue) (alternation : Alternation) (last : Reply) (spooled : List (List ℕ))
    (t : SenderStep) → LeavesQueue q alternation last spooled t
    → Leaves q alternation last spooled t
at_same q alternation last spooled t h = (h.0, inl (ap (λ (u : QueueValue). channel u spooled) h.1))

at_learnt : (q : QueueValue) (k : ℕ) (alternation : Alternation) (last : Reply)
    (spooled : List (List ℕ))
    (t : SenderStep) → q.known + k ≤ length q.offered → spooled ≡ take (q.known + k) q.offered →
    LeavesQueue (with_known q k) alternation last spooled t → Leaves q alternation last spooled t
at_learnt q k alternation last spooled t within front h = (
  h.0,
  subst (λ (u : QueueValue). MovesAtSender (channel q spooled) (channel u spooled)) (sym h.1)
      (sender_learns_spooled q k spooled within front),
)

-- the expected acknowledgement came, and the queue counts the block as known
pub accepted_keeps : NextLaw → (s : SenderValue) (q : QueueValue) (e : End)
    (expected alternation : Alternation) (last : Reply) (spooled : List (List ℕ)) → IsQueue q
    → spooled ≡ take q.known q.offered → AreWaiting 0 e (length (waiting q))
    → alternation ≡ other (other expected) → IsReplyBefore last (other expected) →
    LeavesQueue q alternation last spooled (accepted s q e expected)
accepted_keeps law s q Etx expected alternation last spooled h front more counted reply =
    (at_rest q spooled h front, refl)
accepted_keeps law s q Etb expected alternation last spooled h front more counted reply =
    next_keeps law (s) q (other expected) alternation last spooled h front (omega arith) counted
    reply

-- WACK came
pub delayed_keeps : (s : SenderValue) (q : QueueValue) (e : End)
    (expected alternation : Alternation) (spooled : List (List ℕ)) → IsQueue q
    → spooled ≡ take q.known q.offered
    → AreWaiting 0 e (length (waiting q)) → alternation ≡ expected →
    LeavesQueue q alternation Wack spooled (delayed s q e expected)
delayed_keeps s q e expected alternation spooled h front more counted =
    either_branch (LeavesQueue q alternation Wack spooled) _ _ _
    (at_rest q spooled h front, refl) (
      record {
        queue = h;
        block = tt;
        counts = more;
        agree =
            record { front = front; counted = counted; reply = tt; flight = tt };
      },
      refl,
    )

pub other_twice : (x y : Alternation) → x ≡ y → x ≡ other (other y)
other_twice x Odd e = e
other_twice x Even e = e

-- A reply to a block that has landed. The queue then counts the block as known.
record Marked (b : SentBlock) (q : QueueValue) (spooled : List (List ℕ)) : Type 0 where
  pub within : q.known + b.count ≤ length q.offered
  pub front : spooled ≡ take (q.known + b.count) q.offered
  pub queue : IsQueue (with_known q b.count)
  pub more : AreWaiting 0 b.end (length (waiting (with_known q b.count)))

is_marked : (b : SentBlock) (q : QueueValue) (alternation : Alternation) (last : Reply)
    (spooled : List (List ℕ))
    → InBid (Unanswered b) q alternation last spooled (Back last)
    → HasLanded b q alternation last spooled (Back last) → Marked b q spooled
is_marked b q alternation last spooled i h =
    let there : b.count ≤ length (waiting q) = count_of_block_fits b _ i.counts in
    record {
      within = within_offered q b.count i.queue there;
      front = h.front;
      queue = is_queue_marked q b.count i.queue there;
      more = still_waiting q b.count b.end i.counts;
    }

landed_accepted : NextLaw
    → (s : SenderValue) (b : SentBlock) (q : QueueValue) (alternation : Alternation)
    (last : Reply) (spooled : List (List ℕ)) → Marked b q spooled → alternation ≡ b.alternation
    → IsReplyBefore last (other b.alternation)
    → Leaves q alternation last spooled (accepted s (with_known q b.count) b.end b.alternation)
landed_accepted law s b q alternation last spooled m counted reply =
    at_learnt q b.count alternation last spooled
    (accepted s (with_known q b.count) b.end b.alternation) m.within m.front
    (accepted_keeps law s (with_known q b.count) b.end b.alternation alternation last spooled
    m.queue m.front m.more
    (other_twice alternation b.alternation counted) reply)

landed_delayed : (s : SenderValue) (b : SentBlock) (q : QueueValue) (alternation : Alternation)
    (spooled : List (List ℕ)) → Marked b q spooled → alternation ≡ b.alternation
    → Leaves q alternation Wack spooled (delayed s (with_known q b.count) b.end b.alternation)
landed_delayed s b q alternation spooled m counted =
    at_learnt q b.count alternation Wack spooled
    (delayed s (with_known q b.count) b.end b.alternation) m.within m.front
    (delayed_keeps s (with_known q b.count) b.end b.alternation alternation spooled m.queue m.front
    m.more counted)

landed_over : (s : SenderValue) (b : SentBlock) (q : QueueValue) (alternation : Alternation)
    (last : Reply)
    (spooled : List (List ℕ)) → Marked b q spooled
    → Leaves q alternation last spooled (over s (with_known q b.count) Idle)
landed_over s b q alternation last spooled m =
    at_learnt q b.count alternation last spooled (over s (with_known q b.count) Idle) m.within
    m.front
    (at_rest (with_known q b.count) spooled m.queue m.front, refl)

landed_by : NextLaw → (s : SenderValue) (k : ℕ) (e : End) (expected : Alternation) (q : QueueValue)
    (alternation : Alternation) (last : Reply) (spooled : List (List ℕ)) →
    let b : SentBlock = record { count = k; end = e; alternation = expected } in
    Marked b q spooled → alternation ≡ expected → IsReplyAfter last expected
    → Leaves q alternation last spooled (unanswered_step s q b (answer_of expected last))
landed_by law s k e Odd q alternation Ack1 spooled m c r =
    landed_accepted law s _ q alternation Ack1 spooled m c tt
landed_by law s k e Even q alternation Ack0 spooled m c r =
    landed_accepted law s _ q alternation Ack0 spooled m c tt
landed_by law s k e Odd q alternation Wack spooled m c r =
    landed_delayed s _ q alternation spooled m c
landed_by law s k e Even q alternation Wack spooled m c r =
    landed_delayed s _ q alternation spooled m c
landed_by law s k e Odd q alternation Rvi spooled m c r =
    landed_over s _ q alternation Rvi spooled m
landed_by law s k e Even q alternation Rvi spooled m c r =
    landed_over s _ q alternation Rvi spooled m
landed_by law s k e Odd q alternation Ack0 spooled m c r = absurd r
landed_by law s k e Odd q alternation Nak spooled m c r = absurd r
landed_by law s k e Even q alternation Ack1 spooled m c r = absurd r
landed_by law s k e Even q alternation Nak spooled m c r = absurd r

pub landed_keeps : NextLaw
    → (s : SenderValue) (b : SentBlock) (q : QueueValue) (alternation : Alternation)
    (last : Reply) (spooled : List (List ℕ))
    → InBid (Unanswered b) q alternation last spooled (Back last)
    → HasLanded b q alternation last spooled (Back last)
    → Leaves q alternation last spooled (unanswered_step s q b (answer_of b.alternation last))
landed_keeps law s b q alternation last spooled i h =
    landed_by law s b.count b.end b.alternation q alternation last spooled
    (is_marked b q alternation last spooled i h) h.counted h.reply
