-- What a station forgets of the records of its channels.
use Rattle.std.specs.Prelude.{◌≡◌, ◌≤◌, ◌⊎◌, ◌-◌, ℕ, Bool, ◌&&◌, nat_le, length}
use Rattle.bsc_control.specs.Control.{ControlValue, peer_at, with_peer}
use Rattle.bsc_control.specs.Kept.{outbound_of}
use Rattle.bsc_control.specs.Peer.{forgotten_to}
use Rattle.bsc_station.specs.LineTerminal.{LineTerminalValue, with_own_queue, with_spool}
use Rattle.bsc_station.specs.declared.forgetting.TheConstants.{FEWEST}
use Rattle.bsc_spool.specs.Queue.{with_forgotten}
use Rattle.bsc_spool.specs.Spool.{ForgetsRecords}
use Rattle.bsc_tributary.specs.Tributary.{spool_at}

-- Whether it is worth forgetting the first records, this many, of those of a list with this length,
-- of which some are forgotten: at least as many more as the fewest, and as are left.
abbrev pub is_worth : ℕ → ℕ → ℕ → Bool
is_worth forgotten length count =
    nat_le FEWEST (count - forgotten) && nat_le (length - count) (count - forgotten)

-- For a selection address of a control station the first n records are forgotten, all of which are
-- known to have arrived.
pub record ForgetsKnown (old : ControlValue) (t s : ℕ) (new : ControlValue) : Type 0 where
  pub n : ℕ
  pub known : n ≤ (outbound_of old t s).queue.known
  pub state : new ≡ with_peer old t (forgotten_to (peer_at old t) s n)

-- Nothing changes, or records for this selection address are forgotten.
abbrev pub ForgetsSentTo : ControlValue → ℕ → ℕ → ControlValue → Type 0
ForgetsSentTo old t s new = (new ≡ old) ⊎ ForgetsKnown old t s new

-- Records for some selection addresses are forgotten, one after another.
pub data ForgetsSent : ControlValue → ControlValue → Type 0 where
  nothing : {old : ControlValue} → ForgetsSent old old
  further : {old mid new : ControlValue} {t s : ℕ} → ForgetsSent old mid
      → ForgetsSentTo mid t s new → ForgetsSent old new

-- From a terminal the first n records are forgotten, at most this many.
pub record ForgetsFrom (old : ControlValue) (t count : ℕ) (new : ControlValue) : Type 0 where
  pub n : ℕ
  pub few : n ≤ count
  pub there : n ≤ length (peer_at old t).spool.records
  pub forgets : ForgetsRecords (peer_at old t).spool n (peer_at new t).spool
  pub others : new ≡ with_peer old t (record (peer_at old t) { spool = (peer_at new t).spool })

abbrev pub ForgetsArrivedFrom : ControlValue → ℕ → ℕ → ControlValue → Type 0
ForgetsArrivedFrom old t count new = (new ≡ old) ⊎ ForgetsFrom old t count new

-- The first n records of a terminal are forgotten, all of which are known to have arrived.
pub record ForgetsOwnKnown (old new : LineTerminalValue) : Type 0 where
  pub n : ℕ
  pub known : n ≤ old.tributary.queue.known
  pub state : new ≡ with_own_queue old (with_forgotten old.tributary.queue n)

abbrev pub ForgetsOwn : LineTerminalValue → LineTerminalValue → Type 0
ForgetsOwn old new = (new ≡ old) ⊎ ForgetsOwnKnown old new

-- For a selection address of a terminal the first n records are forgotten, at most this many.
pub record ForgetsFor (old : LineTerminalValue) (s count : ℕ) (new : LineTerminalValue)
    : Type 0 where
  pub n : ℕ
  pub few : n ≤ count
  pub there : n ≤ length (spool_at old.tributary.spools s).records
  pub forgets : ForgetsRecords (spool_at old.tributary.spools s) n
      (spool_at new.tributary.spools s)
  pub others : new ≡ with_spool old s (spool_at new.tributary.spools s)

abbrev pub ForgetsArrivedFor : LineTerminalValue → ℕ → ℕ → LineTerminalValue → Type 0
ForgetsArrivedFor old s count new = (new ≡ old) ⊎ ForgetsFor old s count new
