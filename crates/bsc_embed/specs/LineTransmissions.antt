-- What a program in C reads of the transmission that nobody has heard yet, and of trust.
use Rattle.std.specs.Prelude.{◌≡◌, ◌≢◌, ◌<◌, ◌≤◌, ℕ, List, length, if◌then◌else◌, None, Some}
use Rattle.std.specs.Prelude.{Result, Ok, Err}
use Rattle.bsc_frame.specs.declared.limits.TheConstants.{MAX_SENT}
use Rattle.bsc_frame.specs.Wire.{wire}
use Rattle.bsc_bid.specs.declared.speaker.Speaker.{Speaker}
use Rattle.bsc_bid.specs.declared.speaker.Speaker.TheVariants.{Control, Terminal}
use Rattle.bsc_line_model.specs.declared.transmission.Transmission.{Transmission}
use Rattle.bsc_line_model.specs.Line.{LineValue}
use Rattle.bsc_embed.specs.Buffers.{Holds}
use Rattle.bsc_embed.specs.declared.interface.fault.Fault.{Fault}
use Rattle.bsc_embed.specs.declared.interface.fault.Fault.TheVariants.{NothingSent, NoRoom}
use Rattle.bsc_embed.specs.declared.line_calls.transmission.TheConstants.{CONTROL}

-- The number of a sender: that of the terminal, counted from 0, or CONTROL (own).
abbrev pub speaker_number : Speaker → ℕ
speaker_number Control = CONTROL
speaker_number (Terminal t) = t

-- The octets of the pending message are put at the front of the buffer (GA27-3004: control
-- sequences, polling and selection, text blocks), and its sender is told.
pub record GivesPending (new : List ℕ) (len sender : ℕ) (old : List ℕ) (line : LineValue)
    : Type 0 where
  pub sent : Transmission
  pub pending : line.pending ≡ Some sent
  pub room : MAX_SENT ≤ length old
  pub octets : Holds (wire sent.message) old new len
  pub speaker : sender ≡ speaker_number sent.speaker

-- Nothing is put into the buffer, for this reason: nothing is pending; or something is, and the
-- buffer is too short for the longest transmission.
abbrev pub IsNotGiven : List ℕ → LineValue → Fault → Type 0
IsNotGiven old line NothingSent = line.pending ≡ None
IsNotGiven old line NoRoom = (line.pending ≢ None) × (length old < MAX_SENT)
IsNotGiven old line _ = ⊥

-- The pending transmission is given: the buffer, the length and the sender after, and before.
abbrev pub PendingIs : List ℕ → ℕ → ℕ → List ℕ → ℕ → ℕ → LineValue
    → Result (Unit {0}) Fault → Type 0
PendingIs new len sender old old_len old_sender line (Ok done) =
    GivesPending new len sender old line
PendingIs new len sender old old_len old_sender line (Err f) =
    IsNotGiven old line f × (new ≡ old) × (len ≡ old_len) × (sender ≡ old_sender)

-- Whether the line is trusted is given, 1 or 0: what is given after and before. It has no fault.
abbrev pub TrustIs : ℕ → ℕ → LineValue → Result (Unit {0}) Fault → Type 0
TrustIs new old line (Ok done) = new ≡ (if line.trusted then 1 else 0)
TrustIs new old line (Err f) = ⊥
