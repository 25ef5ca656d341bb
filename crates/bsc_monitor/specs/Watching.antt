-- What a watch counts when it is told what happened.
use Rattle.std.specs.Prelude.{◌≡◌, Bool, true, not, ◌||◌, ◌&&◌, Option, Result, Ok, Err}
use Rattle.bsc_connections.specs.declared.awaited.LiveError.{LiveError}
use Rattle.bsc_connections.specs.declared.awaited.LiveError.TheVariants as live
use Rattle.bsc_connections.specs.Histories.{Happening, WasHeard, WasSilent, WasStopped, HasClosed}
use Rattle.bsc_carrier.specs.declared.error.CarrierError.{CarrierError}
use Rattle.bsc_control.specs.Control.{ControlValue}
use Rattle.bsc_tributary.specs.Tributary.{is_control_mode}
use Rattle.bsc_tributary.specs.declared.mode.Mode.{Mode}
use Rattle.bsc_monitor.specs.Progress.{progress_after}
use Rattle.bsc_monitor.specs.declared.progress.Progress.{Progress}
use Rattle.bsc_text.specs.declared.error.PrintError.{PrintError}
use Rattle.bsc_text.specs.declared.error.PrintError.TheVariants as print

-- The watch of a control station counts what it is told. If it refuses, it counts nothing.
abbrev pub Counts : Result Bool LiveError → ControlValue → Happening → Progress → Progress → Type 0
Counts (Ok goes_on) control happening old new = new ≡ progress_after old control happening
Counts (Err error) control happening old new = new ≡ old

-- What the result of printing a line of the trace is to a station that is attended.
abbrev pub live_of : Result (Unit {0}) PrintError → Result (Unit {0}) LiveError
live_of (Ok done) = Ok done
live_of (Err print.Output) = Err live.Output
live_of (Err print.Memory) = Err live.Memory

-- Whether a terminal was asked to end, whether it has ended, and the fault that closed its
-- connection, if it was a fault.
pub record Closing : Type 0 where
  pub ended : Bool
  pub closed : Option CarrierError
  pub stopped : Bool

abbrev pub closing_of : Bool → Option CarrierError → Bool → Closing
closing_of ended closed stopped = record { ended = ended; closed = closed; stopped = stopped }

-- The same after this, in this mode of the terminal: it ends when its connection is closed. Once it
-- was asked to end it ends in control mode, or if it is asked again.
abbrev pub closing_after : Closing → Mode → Happening → Closing
closing_after old mode (HasClosed place peer why) = closing_of true why old.stopped
closing_after old mode WasStopped =
    closing_of (old.ended || (old.stopped || is_control_mode mode)) old.closed true
closing_after old mode _ =
    closing_of (old.ended || (old.stopped && is_control_mode mode)) old.closed old.stopped

-- The same after the watch of the terminal was told this. If it refuses, nothing changes.
abbrev pub closing_told : Result Bool LiveError → Closing → Mode → Happening → Closing
closing_told (Ok goes_on) old mode happening = closing_after old mode happening
closing_told (Err error) old mode happening = old

-- Whether a control station that has ended was asked to end, and whether it is attended no further.
pub record Last : Type 0 where
  pub ended : Bool
  pub stopped : Bool

abbrev pub last_of : Bool → Bool → Last
last_of ended stopped = record { ended = ended; stopped = stopped }

-- The same after this: its last call is answered, unless the station refuses the answer, as the
-- flag says, or nobody answers, or a connection is closed, or it is asked to end and was asked
-- before.
abbrev pub last_after : Last → Bool → Happening → Last
last_after old refuses (WasHeard place octets) = last_of (old.ended || not refuses) old.stopped
last_after old refuses WasSilent = last_of true old.stopped
last_after old refuses (HasClosed place peer why) = last_of true old.stopped
last_after old refuses WasStopped = last_of (old.ended || old.stopped) true
last_after old refuses _ = old

-- The same after the watch was told this. If it refuses, nothing changes.
abbrev pub last_told : Result Bool LiveError → Last → Bool → Happening → Last
last_told (Ok goes_on) old refuses happening = last_after old refuses happening
last_told (Err error) old refuses happening = old
