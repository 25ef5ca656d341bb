-- What is kept of a sender when its process ends, and how a new sender recalls it. This is the
-- project's own.
use Rattle.std.specs.Prelude.{◌≡◌, ℕ, ◌-◌, ◌≤◌, nat_lt, nat_le, Bool, true, ◌&&◌, length}
use Rattle.std.specs.Prelude.{Option, None, Some, Result, Ok, Err, if◌then◌else◌, IfSome}
use Rattle.bsc_frame.specs.declared.limits.TheConstants.{MAX_UNITS}
use Rattle.bsc_spool.specs.Queue.{QueueValue, queue_of}
use Rattle.bsc_bid.specs.declared.kept.KeptSender.{KeptSender}
use Rattle.bsc_bid.specs.declared.kept.RecallError.{RecallError}
use Rattle.bsc_bid.specs.declared.kept.RecallError.TheVariants.{NotNew, Known, Doubt}
use Rattle.bsc_bid.specs.declared.phase.Phase.{Phase}
use Rattle.bsc_bid.specs.declared.phase.Phase.TheVariants.{Idle, Unanswered, Held, InDoubt}
use Rattle.bsc_bid.specs.Setup.{SetupValue}
use Rattle.bsc_bid.specs.Sender.{SenderValue, restarted_sender, with_phase}

-- A doubtful block has 1 to 7 records.
abbrev pub HasDoubt : Phase → Type 0
HasDoubt Idle = Unit {0}
HasDoubt (InDoubt k) = (1 ≤ k) × (k ≤ MAX_UNITS)
HasDoubt (Unanswered b) = Unit {0}
HasDoubt (Held end alternation) = Unit {0}

-- How many records the block has that may have arrived or not. A held block arrived.
abbrev pub doubt_of : Phase → Option ℕ
doubt_of Idle = None
doubt_of (Unanswered b) = Some b.count
doubt_of (Held end alternation) = None
doubt_of (InDoubt k) = Some k

-- What is kept of a sender and its queue, beside the offered records.
abbrev pub kept_of : SenderValue → QueueValue → KeptSender
kept_of s q = record { known = q.known; doubt = doubt_of s.phase }

-- A doubtful block has 1 to 7 records, and no more than are not known.
pub record IsDoubtful (k unknown : ℕ) : Type 0 where
  pub some : 1 ≤ k
  pub few : k ≤ MAX_UNITS
  pub there : k ≤ unknown

-- What is kept fits this many offered records: no more are known, and of the others a doubtful
-- block, if there is one, has 1 to 7.
pub record FitsOffered (kept : KeptSender) (offered : ℕ) : Type 0 where
  pub known : kept.known ≤ offered
  pub doubt : IfSome kept.doubt (λ k. IsDoubtful k (offered - kept.known))

-- A sender without a bid and without a doubt.
abbrev pub new_sender : SetupValue → SenderValue
new_sender setup = record { setup = setup; phase = Idle; failures = 0; wacks = 0 }

-- What a recall leaves, and its answer.
pub record RecallStep : Type 0 where
  pub sender : SenderValue
  pub queue : QueueValue
  pub answer : Result (Unit {0}) RecallError

-- The phase of a sender that is at rest with this doubt, or without one.
abbrev pub phase_with : Option ℕ → Phase
phase_with None = Idle
phase_with (Some k) = InDoubt k

-- As many records are known, and the same block is in doubt, as was kept.
abbrev pub recalled : SenderValue → QueueValue → KeptSender → RecallStep
recalled s q kept =
    record {
      sender = with_phase s (phase_with kept.doubt);
      queue = queue_of q.format q.offered kept.known;
      answer = Ok tt;
    }

-- Nothing changes, and what was kept is refused.
abbrev pub not_recalled : SenderValue → QueueValue → RecallError → RecallStep
not_recalled s q error = record { sender = s; queue = q; answer = Err error }

-- Whether a doubtful block, if there is one, has 1 to 7 records, and no more than are not known.
abbrev pub fits_doubt : Option ℕ → ℕ → Bool
fits_doubt None unknown = true
fits_doubt (Some k) unknown = nat_le 1 k && nat_le k MAX_UNITS && nat_le k unknown

-- A recall in this phase, with its refusals in their order.
abbrev pub recall_in : SenderValue → QueueValue → Phase → KeptSender → RecallStep
recall_in s q Idle kept =
    if nat_lt 0 q.known then not_recalled s q NotNew
    else if nat_lt (length q.offered) kept.known then not_recalled s q Known
    else if fits_doubt kept.doubt (length q.offered - kept.known) then recalled s q kept
    else not_recalled s q Doubt
recall_in s q _ kept = not_recalled s q NotNew

-- A recall.
abbrev pub recall_step : SenderValue → QueueValue → KeptSender → RecallStep
recall_step s q kept = recall_in s q s.phase kept

-- What is kept of a sender, if it fits, makes it again: a new sender with the same settings that
-- recalls it, for a queue of the same records of which none is known, is the sender after a
-- restart, with its queue as it was.
abbrev pub RecallsKept : Type 0
RecallsKept =
    (s : SenderValue) (q : QueueValue) → FitsOffered (kept_of s q) (length q.offered)
    → recall_step (new_sender s.setup) (queue_of q.format q.offered 0) (kept_of s q)
    ≡ record { sender = restarted_sender s; queue = q; answer = Ok tt }
