-- What cutting off a bid, or beginning again, leaves of a sender.
use Rattle.std.proofs.Common.{ℕ, length}
use Rattle.bsc_spool.specs.Queue.{QueueValue, waiting}
use Rattle.bsc_bid.specs.declared.phase.Phase.{Phase}
use Rattle.bsc_bid.specs.declared.phase.Phase.TheVariants.{Idle, Unanswered, Held, InDoubt}
use Rattle.bsc_bid.specs.Ready.{CountsOn, IsReady, IsAtRest}
use Rattle.bsc_bid.specs.Sender.{SenderValue, cut_phase, restarted_sender}
use Rattle.bsc_bid.proofs.Readiness.{all_waiting}

-- a phase that was cut off is at rest
pub is_at_rest_cut_phase : (p : Phase) → IsAtRest (cut_phase p)
is_at_rest_cut_phase Idle = tt
is_at_rest_cut_phase (Unanswered b) = tt
is_at_rest_cut_phase (Held end alternation) = tt
is_at_rest_cut_phase (InDoubt count) = tt

-- and counts on no more than before
counts_cut_phase : (p : Phase) (n : ℕ) → CountsOn p n → CountsOn (cut_phase p) n
counts_cut_phase Idle n h = tt
counts_cut_phase (Unanswered b) n h = all_waiting b.count n b.end h
counts_cut_phase (Held end alternation) n h = tt
counts_cut_phase (InDoubt count) n h = h

-- the queue has what the sender counts on that began again
pub ready_restarted : (s : SenderValue) (q : QueueValue) → IsReady s q
    → IsReady (restarted_sender s) q
ready_restarted s q h =
    record { queue = h.queue; counts = counts_cut_phase s.phase (length (waiting q)) h.counts }
