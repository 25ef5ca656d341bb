-- How a station runs, with what keeps what it changes.
use Rattle.std.specs.Prelude.{◌≡◌, ◌⊎◌, ℕ, Bool, true, false, List, Result, Ok}
use Rattle.bsc_bid.specs.declared.station.Station as station_of
use Rattle.bsc_connections.specs.declared.awaited.LiveError.{LiveError}
use Rattle.bsc_connections.specs.Histories.{Happening, WasStopped}
use Rattle.bsc_control.specs.Control.{ControlValue}
use Rattle.bsc_keeping.specs.LiveRuns.{Course, State, StepsOrWaits, ended}
use Rattle.bsc_monitor.specs.Polls.{Settles}
use Rattle.bsc_station.specs.LineTerminal.{LineTerminalValue}
use Rattle.bsc_attending.specs.declared.preparing.Prepared.{Prepared}
use Rattle.bsc_attending.specs.declared.preparing.Prepared.TheVariants as prepared

-- A station and what keeps what it changes.
abbrev pub state : {S Q : Type 0} → S → Q → State S Q
state station kept = record { station = station; kept = kept }

-- The terminals, this many, are polled that are wanted, and then a step of the station follows, or
-- a wait that fails.
pub record SettlesAndSteps {S Q : Type 0} (station : station_of.Ghosts S)
    (keeps : Q → S → Result (Unit {0}) LiveError → Q → Type 0) (polls : S → ℕ → Bool → S → Type 0)
    (wanted : ℕ → Bool) (count : ℕ) (old : State S Q) (result : Result Bool LiveError)
    (new : State S Q) : Type 0 where
  pub settled : S
  pub settles : Settles polls wanted count old.station settled
  pub steps : StepsOrWaits station keeps (state settled old.kept) result new

-- A station ran, for which `runs` says what that means, and ended, or it failed, and that only if
-- this is so.
pub record RanLive {S Q : Type 0} (runs : Course → State S Q → State S Q → Type 0) (old new : S)
    (kept left : Q) (failure : Type 0) : Type 0 where
  pub course : Course
  pub ran : runs course (state old kept) (state new left)
  pub ends : (course ≡ ended) ⊎ failure

-- So it is of a prepared station, which stays the control station or the terminal that it is.
abbrev pub PreparedRanLive : {Q : Type 0}
    → (Course → State ControlValue Q → State ControlValue Q → Type 0)
    → (Course → State LineTerminalValue Q → State LineTerminalValue Q → Type 0) → Prepared
    → Prepared → Q → Q → Type 0 → Type 0
PreparedRanLive control terminal (prepared.Control old) (prepared.Control new) kept left failure =
    RanLive control old new kept left failure
PreparedRanLive control terminal (prepared.Terminal old) (prepared.Terminal new) kept left failure =
    RanLive terminal old new kept left failure
PreparedRanLive control terminal old new kept left failure = ⊥

-- Whether the monitor of a station was told that the station is asked to end, before and after.
-- If it is to be told, it is, and what it says of it is the result. Else nothing changes, and the
-- station is attended further.
module _ {M S : Type 0} (is_told : M → S → Happening → Result Bool LiveError → M → Type 0)
    (station : S) where
  abbrev pub TellsStopped : Bool → Bool → Bool → M → Result Bool LiveError → M → Type 0
  TellsStopped true before after old result new =
      (after ≡ true) × is_told old station WasStopped result new
  TellsStopped false before after old result new =
      (after ≡ before) × (result ≡ Ok true) × (new ≡ old)
