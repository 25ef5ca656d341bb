-- What a sender counts on in its queue remains true.
use Rattle.std.proofs.Common.{◌≡◌, ℕ, ◌+◌, ◌<◌, ◌≤◌, List, [], ◌∷◌, length, refl, sym, subst, arith}
use Rattle.std.proofs.Common.{length-drop}
use Rattle.bsc_frame.specs.declared.text.End.{End}
use Rattle.bsc_frame.specs.declared.text.End.TheVariants.{Etb, Etx}
use Rattle.bsc_spool.specs.declared.queue.Next.{Next}
use Rattle.bsc_block.specs.Format.{FormatValue}
use Rattle.bsc_spool.specs.Queue.{QueueValue, with_known, IsQueue, IsNext, waiting, next_after}
use Rattle.bsc_bid.specs.declared.alternation.Alternation.{Alternation}
use Rattle.bsc_bid.specs.declared.alternation.Alternation.TheVariants.{Odd}
use Rattle.bsc_bid.specs.Ready.{AreWaiting, IsGoing}
use Rattle.bsc_bid.specs.Sender.{SenderValue, SenderStep, sent_next, begin_step}

waiting_by : (k n : ℕ) (e : End) → k ≤ n → (e ≡ Etb → k < n) → AreWaiting k e n
waiting_by k n Etb there more = omega (arith, more refl)
waiting_by k n Etx there more = there

-- what a sender counts on for the block that it sends next
pub counts_next : (q : QueueValue) (n : Next) → IsNext q n
    → AreWaiting n.count n.end (length (waiting q))
counts_next q n next = waiting_by n.count (length (waiting q)) n.end next.there next.more

-- the records of a block are among those that wait
pub all_waiting : (k n : ℕ) (e : End) → AreWaiting k e n → k ≤ n
all_waiting k n Etb h = omega arith
all_waiting k n Etx h = h

pub within_offered : (q : QueueValue) (k : ℕ) → IsQueue q → k ≤ length (waiting q)
    → q.known + k ≤ length q.offered
within_offered q k h there =
    let known : q.known ≤ length q.offered = h.known in omega (arith, length-drop q.known q.offered)

-- a queue in which waiting records are marked is a queue
pub is_queue_marked : (q : QueueValue) (k : ℕ) → IsQueue q → k ≤ length (waiting q)
    → IsQueue (with_known q k)
is_queue_marked q k h there =
    record { format = h.format; known = within_offered q k h there; short = h.short }

wait_more : (q : QueueValue) (k j : ℕ) → k + j ≤ length (waiting q)
    → j ≤ length (waiting (with_known q k))
wait_more q k j h =
    omega (arith, length-drop q.known q.offered, length-drop (q.known + k) q.offered)

-- after ETB a record still waits once the block is marked
pub still_waiting : (q : QueueValue) (k : ℕ) (e : End) → AreWaiting k e (length (waiting q))
    → AreWaiting 0 e (length (waiting (with_known q k)))
still_waiting q k Etb h = wait_more q k 1 h
still_waiting q k Etx h = omega arith

going_next : (s : SenderValue) (q : QueueValue) (x : Alternation) (f : FormatValue)
    (rs : List (List ℕ)) → 1 ≤ length rs → IsGoing (sent_next s q x (next_after f rs)).sender.phase
going_next s q x f [] h = absurd (omega arith)
going_next s q x f (r ∷ rs) h = tt

-- if records wait, `begin` starts a bid
pub going_begin : (s : SenderValue) (q : QueueValue) (t : SenderStep) → t ≡ begin_step s q
    → 1 ≤ length (waiting q) → IsGoing t.sender.phase
going_begin s q t e h =
    subst (λ (u : SenderStep). IsGoing u.sender.phase) (sym e)
    (going_next s q Odd q.format (waiting q) h)

-- the steps of a reply to an unanswered block
pub ruleset reply_steps = (is_queue_marked, still_waiting, all_waiting)
