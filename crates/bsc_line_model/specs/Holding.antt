-- Which terminal holds the line while the control station has not restarted since the line was new.
use Rattle.std.specs.Prelude.{◌<◌, ℕ, IsTrue, List, Contains, Result}
use Rattle.bsc_bid.specs.Setup.{SetupValue}
use Rattle.bsc_bid.specs.Terminal.{TerminalValue}
use Rattle.bsc_tributary.specs.Tributary.{holds}
use Rattle.bsc_line_model.specs.declared.error.Stopped.{Stopped}
use Rattle.bsc_line_model.specs.declared.event.Event.{Event}
use Rattle.bsc_line_model.specs.declared.event.Event.TheVariants.{Restart}
use Rattle.bsc_bid.specs.declared.speaker.Speaker.TheVariants.{Control}
use Rattle.bsc_line_model.specs.Line.{LineValue, terminal_at, terminal_count}
use Rattle.bsc_line_model.specs.Runs.{Runs}
use Rattle.bsc_line_model.specs.Kept.{IsLine, IsNewLine}
use Rattle.bsc_line_model.specs.StepLaws.{IsPolled}

-- no event is a restart of the control station
abbrev pub NoControlRestart : List Event → Type 0
NoControlRestart events = ¬ Contains events (Restart Control)

-- a terminal holds the line only if the control station polls it
abbrev pub HoldsOnlyIfPolled : LineValue → Type 0
HoldsOnlyIfPolled l =
    (t : ℕ) → t < terminal_count l → IsTrue (holds (terminal_at l t).mode) → IsPolled l t

-- if the line was new, no event is a restart of the control station, and the line is trusted after
-- them, a terminal holds the line only if the control station polls it; terminals may restart
abbrev pub HoldsOnlyWhilePolled : LineValue → List Event → LineValue → Type 0
HoldsOnlyWhilePolled old events new =
    (setup : SetupValue) (given : List TerminalValue) (poll_list : List ℕ)
    → IsNewLine setup given poll_list old → NoControlRestart events → IsTrue new.trusted
    → HoldsOnlyIfPolled new

-- every run keeps this
abbrev pub RunsHoldOnlyWhilePolled : Type 0
RunsHoldOnlyWhilePolled =
    (old new : LineValue) (events : List Event) (result : Result (Unit {0}) Stopped) → IsLine old
    → Runs old events result new → HoldsOnlyWhilePolled old events new
