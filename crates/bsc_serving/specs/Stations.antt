-- The two stations of a line, each as the parts of `LineStation`.
use Rattle.std.specs.Prelude.{◌≡◌, ℕ, Bool, true, Some, Result}
use Rattle.bsc_bid.specs.Stored.{kept_of}
use Rattle.bsc_bid.specs.declared.sender.ReleaseError.{ReleaseError}
use Rattle.bsc_bid.specs.declared.way.Way.{Way}
use Rattle.bsc_control.specs.CallOrder.{is_polled}
use Rattle.bsc_control.specs.Control.{ControlValue}
use Rattle.bsc_station.specs.Feeding.{IsNoTerminal, OffersToControl, OffersToTerminal}
use Rattle.bsc_station.specs.Feeding.{ReadiesTerminal, ReleasesControl, ReleasesTerminal}
use Rattle.bsc_station.specs.Feeding.{UrgesTerminal, kept_at_control, offered_control}
use Rattle.bsc_station.specs.Feeding.{offered_terminal}
use Rattle.bsc_station.specs.Forgetting.{ForgetsArrivedFor, ForgetsArrivedFrom, ForgetsOwn}
use Rattle.bsc_station.specs.Forgetting.{ForgetsSent}
use Rattle.bsc_station.specs.LineTerminal.{LineTerminalValue}
use Rattle.bsc_station.specs.Polling.{PollsTerminal}
use Rattle.bsc_station.specs.declared.line_station.LineStation as line_of

-- The control station.
abbrev pub control_line : {Z : Type 0} → line_of.Ghosts ControlValue Z
control_line = record {
  kept_at = kept_at_control;
  forgets_sent = ForgetsSent;
  forgets_arrived = ForgetsArrivedFrom;
  is_called = is_polled;
  polls = PollsTerminal;
  offered = offered_control;
  offers = OffersToControl;
  full = λ (c : ControlValue). c.setup.format.full;
  releases = ReleasesControl;
  readies = λ (c : ControlValue) (ready obeyed : Bool) (new : ControlValue).
      IsNoTerminal c obeyed new;
  urges = λ (c : ControlValue) (obeyed : Bool) (new : ControlValue). IsNoTerminal c obeyed new;
}

-- A terminal.
abbrev pub terminal_line : {Z : Type 0} → line_of.Ghosts LineTerminalValue Z
terminal_line = record {
  kept_at = λ (l : LineTerminalValue) (terminal select : ℕ).
      Some (kept_of l.tributary.sender l.tributary.queue);
  forgets_sent = ForgetsOwn;
  forgets_arrived = ForgetsArrivedFor;
  is_called = λ (l : LineTerminalValue) (terminal : ℕ). true;
  polls = λ (old : LineTerminalValue) (terminal : ℕ) (polled : Bool) (new : LineTerminalValue).
      new ≡ old;
  offered = offered_terminal;
  offers = OffersToTerminal;
  full = λ (l : LineTerminalValue). l.tributary.queue.format.full;
  releases = λ (l : LineTerminalValue) (terminal : ℕ) (way : Way) (count : ℕ)
      (result : Result (Unit {0}) ReleaseError) (new : LineTerminalValue).
      ReleasesTerminal l count result new;
  readies = ReadiesTerminal;
  urges = UrgesTerminal;
}
