-- What every run of events keeps, whether or not the line is trusted after it.
use Rattle.std.specs.Prelude.{◌≡◌, ◌↔◌, ◌<◌, ◌++◌, ℕ, List, Result}
use Rattle.bsc_bid.specs.declared.way.Way.{Way}
use Rattle.bsc_line_model.specs.declared.error.Stopped.{Stopped}
use Rattle.bsc_line_model.specs.declared.event.Event.{Event}
use Rattle.bsc_line_model.specs.Line.{LineValue, terminal_at, terminal_count, IsChannel}
use Rattle.bsc_line_model.specs.Runs.{Runs}
use Rattle.bsc_line_model.specs.Kept.{IsLine}
use Rattle.bsc_line_model.specs.StepLaws.{offered_on}
use Rattle.bsc_line_model.specs.Headline.{accepted_in, offered_in}

-- the channels are those of before: there are as many terminals, each with the same addresses
pub record HasSameChannels (old new : LineValue) : Type 0 where
  pub count : terminal_count new ≡ terminal_count old
  pub addresses : (t : ℕ) → t < terminal_count old
      → (terminal_at new t).terminal ≡ (terminal_at old t).terminal
  pub channels : (t : ℕ) (way : Way) → IsChannel new t way ↔ IsChannel old t way

-- on each channel, the records of the accepted offers were offered, in order, and no others
abbrev pub OffersAccepted :
    LineValue → List Event → Result (Unit {0}) Stopped → LineValue → Type 0
OffersAccepted old events result new =
    (t : ℕ) (way : Way) → IsChannel old t way
    → offered_on new t way ≡ offered_on old t way ++ offered_in (accepted_in events result) t way

-- a run leaves a line, with the channels of before, on which the accepted offers were offered
pub record KeepsLine (old : LineValue) (events : List Event) (result : Result (Unit {0}) Stopped)
    (new : LineValue) : Type 0 where
  pub line : IsLine new
  pub channels : HasSameChannels old new
  pub offered : OffersAccepted old events result new

-- every run does
abbrev pub RunsKeepLine : Type 0
RunsKeepLine =
    (old new : LineValue) (events : List Event) (result : Result (Unit {0}) Stopped) → IsLine old
    → Runs old events result new → KeepsLine old events result new
