-- The release of a doubt in a store, and in a sender.
use Rattle.std.specs.Prelude.{◌≡◌, ℕ, zero, suc, ◌+◌, ◌==◌, ◌||◌, not, Bool, true, false}
use Rattle.std.specs.Prelude.{Result, Ok, Err}
use Rattle.std.specs.Prelude.{if◌then◌else◌}
use Rattle.bsc_spool.specs.Queue.{QueueValue}
use Rattle.bsc_bid.specs.declared.phase.Phase.{Phase}
use Rattle.bsc_bid.specs.declared.phase.Phase.TheVariants.{Idle, InDoubt}
use Rattle.bsc_bid.specs.declared.sender.ReleaseError.{ReleaseError}
use Rattle.bsc_bid.specs.declared.sender.ReleaseError.TheVariants.{NotInDoubt, CountMismatch}
use Rattle.bsc_bid.specs.Sender.{SenderValue, ReleaseStep, release_step}
use Rattle.bsc_spool.specs.declared.channel.Channel.{Channel}
use Rattle.bsc_spool.specs.declared.change.Change.{Change}
use Rattle.bsc_spool.specs.declared.change.Change.TheVariants.{Known}
use Rattle.bsc_spool.specs.declared.store.Progress.{Progress}
use Rattle.bsc_storing.specs.declared.reconciling.Verdict.{Verdict}
use Rattle.bsc_storing.specs.declared.reconciling.Verdict.TheVariants.{Settled, Ends, Apart}

-- The change that ends a doubt, by what the other end has.
abbrev pub release_of : Channel → Progress → ℕ → Result Change ReleaseError
release_of channel it count =
    if it.in_doubt == 0 then Err NotInDoubt
    else (if (count == it.known) || (count == (it.known + it.in_doubt))
    then Ok (Known channel count 0) else Err CountMismatch)

-- What the counts of the two ends of a channel say, by the release at the count of the receiving
-- end. Without a doubt exactly the known records have arrived. With a doubt the block that is in
-- doubt has arrived too, or not. All else is one store that is older than the other: if more have
-- arrived, the sender's, and if fewer have, the receiver's.
abbrev pub compared_by : Progress → ℕ → Result Change ReleaseError → Verdict
compared_by it arrived (Ok change) = Ends change arrived
compared_by it arrived (Err NotInDoubt) =
    if arrived == it.known then Settled else Apart it.known arrived
compared_by it arrived (Err CountMismatch) = Apart it.known arrived

abbrev pub compared : Channel → Progress → ℕ → Verdict
compared channel it arrived = compared_by it arrived (release_of channel it arrived)

-- The counts fit: as many records have arrived as are known, or as are known and in doubt.
abbrev pub fits : Progress → ℕ → Bool
fits it arrived = (arrived == it.known) || (arrived == (it.known + it.in_doubt))

-- Whether they were found not to fit.
abbrev pub is_apart : Verdict → Bool
is_apart (Apart known arrived) = true
is_apart what = false

-- Exactly the counts that do not fit are found so.
abbrev pub FindsApart : Type 0
FindsApart = (channel : Channel) (it : Progress) (arrived : ℕ)
    → is_apart (compared channel it arrived) ≡ not (fits it arrived)

-- The phase of a sender at rest with this many records in doubt.
abbrev pub phase_at : ℕ → Phase
phase_at zero = Idle
phase_at (suc k) = InDoubt (suc k)

-- A sender that releases its doubt is left at rest with as many known as the change says; it
-- refuses with the same error.
abbrev pub Releases : ReleaseStep → Result Change ReleaseError → Channel → Type 0
Releases step (Ok change) channel =
    (step.answer ≡ Ok tt) × (step.sender.phase ≡ Idle) × (change ≡ Known channel step.queue.known 0)
Releases step (Err error) channel = step.answer ≡ Err error

-- The release in a store is that of the sender that is made again from it.
abbrev pub IsReleaseOfBid : Type 0
IsReleaseOfBid = (s : SenderValue) (q : QueueValue) (channel : Channel) (it : Progress) (count : ℕ)
    → s.phase ≡ phase_at it.in_doubt → q.known ≡ it.known
    → Releases (release_step s q count) (release_of channel it count) channel
