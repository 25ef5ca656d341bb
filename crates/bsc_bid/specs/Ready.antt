-- What a sender keeps, and what it counts on in its queue. It holds of the queue that was given to
-- `begin`, whatever is offered afterwards.
use Rattle.std.specs.Prelude.{◌≡◌, ℕ, ◌+◌, ◌≤◌, length}
use Rattle.bsc_frame.specs.declared.limits.TheConstants.{MAX_UNITS}
use Rattle.bsc_frame.specs.declared.text.End.{End}
use Rattle.bsc_frame.specs.declared.text.End.TheVariants.{Etb, Etx}
use Rattle.bsc_spool.specs.Queue.{QueueValue, IsQueue, waiting}
use Rattle.bsc_bid.specs.declared.outcome.Outcome.{Outcome}
use Rattle.bsc_bid.specs.declared.outcome.Outcome.TheVariants as o
use Rattle.bsc_bid.specs.Act.{Act, outcome_of}
use Rattle.bsc_bid.specs.declared.phase.Phase.{Phase}
use Rattle.bsc_bid.specs.declared.phase.Phase.TheVariants.{Idle, Unanswered, Held, InDoubt}
use Rattle.bsc_bid.specs.Setup.{SetupValue}
use Rattle.bsc_bid.specs.Sender.{SenderValue}

-- This many records are among the n that wait, and one more after ETB.
abbrev pub AreWaiting : ℕ → End → ℕ → Type 0
AreWaiting k Etb n = k + 1 ≤ n
AreWaiting k Etx n = k ≤ n

-- What a sender in this phase counts on among n waiting records.
abbrev pub CountsOn : Phase → ℕ → Type 0
CountsOn Idle n = Unit {0}
CountsOn (InDoubt k) n = k ≤ n
CountsOn (Unanswered b) n = AreWaiting b.count b.end n
CountsOn (Held end alternation) n = AreWaiting 0 end n

-- The queue has what the sender counts on.
pub record IsReady (s : SenderValue) (q : QueueValue) : Type 0 where
  pub queue : IsQueue q
  pub counts : CountsOn s.phase (length (waiting q))

-- An unanswered block has 1 to 7 records.
abbrev pub HasBlock : Phase → Type 0
HasBlock Idle = Unit {0}
HasBlock (InDoubt k) = Unit {0}
HasBlock (Unanswered b) = (1 ≤ b.count) × (b.count ≤ MAX_UNITS)
HasBlock (Held end alternation) = Unit {0}

-- While a bid continues, no counter exceeds its limit.
abbrev pub AreWithinLimits : SetupValue → ℕ → ℕ → Phase → Type 0
AreWithinLimits setup failures wacks Idle = Unit {0}
AreWithinLimits setup failures wacks (InDoubt k) = Unit {0}
AreWithinLimits setup failures wacks (Unanswered b) =
    (failures ≤ setup.tries) × (wacks ≤ setup.waits)
AreWithinLimits setup failures wacks (Held end alternation) =
    (failures ≤ setup.tries) × (wacks ≤ setup.waits)

-- A bid continues.
abbrev pub IsGoing : Phase → Type 0
IsGoing Idle = ⊥
IsGoing (InDoubt k) = ⊥
IsGoing (Unanswered b) = Unit {0}
IsGoing (Held end alternation) = Unit {0}

-- No bid continues.
abbrev pub IsAtRest : Phase → Type 0
IsAtRest Idle = Unit {0}
IsAtRest (InDoubt k) = Unit {0}
IsAtRest (Unanswered b) = ⊥
IsAtRest (Held end alternation) = ⊥

-- The phase that a call of a sender leaves: a bid continues if something is sent, no bid continues
-- if it is over, and nothing changes if the sender stays quiet.
abbrev pub FitsOutcome : Outcome → Phase → Phase → Type 0
FitsOutcome o.Sends old new = IsGoing new
FitsOutcome o.Over old new = IsAtRest new
FitsOutcome o.Quiet old new = new ≡ old

-- The phase that an act leaves.
abbrev pub FitsAct : Act → Phase → Phase → Type 0
FitsAct act old new = FitsOutcome (outcome_of act) old new
