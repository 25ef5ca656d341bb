-- The conditions for giving each terminal its own item to hear, and what the octets of the pending
-- message are heard as.
use Rattle.std.specs.Prelude.{◌≡◌, ◌≢◌, ℕ, None, Some}
use Rattle.bsc_frame.specs.Reading.{heard}
use Rattle.bsc_frame.specs.Wire.{wire}
use Rattle.bsc_frame.specs.declared.message.Heard.TheVariants.{Whole}
use Rattle.bsc_line_model.specs.declared.transmission.Transmission.{Transmission}
use Rattle.bsc_line_model.specs.declared.error.LineError.{LineError}
use Rattle.bsc_line_model.specs.declared.error.LineError.TheVariants.{NothingSent, NotControl}
use Rattle.bsc_line_model.specs.declared.error.LineError.TheVariants.{WrongCount}
use Rattle.bsc_line_model.specs.Line.{LineValue, terminal_count}
use Rattle.bsc_line_model.specs.Runs.{IsFromTerminal, IsFromControl}

-- A transmission of the control station is pending, and there is one item for each terminal.
pub record WasSent (l : LineValue) (count : ℕ) : Type 0 where
  pub control : IsFromControl l
  pub one_each : count ≡ terminal_count l

-- The reason why this number of items is refused.
abbrev pub IsRefusedEach : LineValue → ℕ → LineError → Type 0
IsRefusedEach l count NothingSent = l.pending ≡ None
IsRefusedEach l count NotControl = IsFromTerminal l
IsRefusedEach l count WrongCount = IsFromControl l × (count ≢ terminal_count l)
IsRefusedEach l count _ = ⊥

-- The octets that are sent for the pending message are heard as it.
abbrev pub ReadsAsSent : LineValue → Type 0
ReadsAsSent l =
    (sent : Transmission) → l.pending ≡ Some sent → heard (wire sent.message) ≡ Whole sent.message
