-- Making a control station from what C gives (GA27-3004: poll list). The limits and the faults are
-- this project's own.
use Rattle.std.specs.Prelude.{◌≡◌, ◌⊎◌, ℕ, List, Result, Ok, Err}
use Rattle.bsc_bid.specs.Setup.{SetupValue}
use Rattle.bsc_bid.specs.Terminal.{TerminalValue}
use Rattle.bsc_control.specs.Control.{ControlValue}
use Rattle.bsc_control.specs.Kept.{IsControl, IsNewControl}
use Rattle.bsc_bid.specs.Refusals.{IsAccepted, IsRefused}
use Rattle.bsc_bid.specs.declared.refusal.SetupError.{SetupError}
use Rattle.bsc_embed.specs.Addresses.{terminals_in}
use Rattle.bsc_embed.specs.FromFaults.{setup_fault}
use Rattle.bsc_embed.specs.Settings.{setup_in}
use Rattle.bsc_embed.specs.declared.interface.addresses.StoredAddresses.{StoredAddresses}
use Rattle.bsc_embed.specs.declared.interface.settings.Settings.{Settings}
use Rattle.bsc_embed.specs.declared.interface.fault.Fault.{Fault}
use Rattle.bsc_embed.specs.declared.interface.fault.Fault.TheVariants.{Memory}

-- A new control station with these settings, terminals and poll list, which there is no reason to
-- refuse.
pub record IsNew (setup : SetupValue) (ts : List TerminalValue) (list : List ℕ) (c : ControlValue)
    : Type 0 where
  pub accepted : IsAccepted ts list
  pub new : IsNewControl setup ts list c
  pub control : IsControl c

-- The terminals or the poll list are refused, and the fault is the reason.
pub record IsRefusedAs (ts : List TerminalValue) (list : List ℕ) (f : Fault) : Type 0 where
  pub reason : SetupError
  pub refused : IsRefused ts list reason
  pub fault : f ≡ setup_fault reason

-- The answer is a new control station, or a fault.
abbrev pub IsNewOrRefused : SetupValue → List TerminalValue → List ℕ → Result ControlValue Fault
    → Type 0
IsNewOrRefused setup ts list (Ok c) = IsNew setup ts list c
IsNewOrRefused setup ts list (Err f) = IsRefusedAs ts list f

-- What was read of the settings and then of the terminals: the first fault of these is the answer.
-- Once the settings are read, memory may run out.
abbrev pub IsMadeOf : Result SetupValue Fault → Result (List TerminalValue) Fault → List ℕ
    → Result ControlValue Fault → Type 0
IsMadeOf (Err f) terminals list answer = answer ≡ Err f
IsMadeOf (Ok setup) (Err f) list answer = (answer ≡ Err f) ⊎ (answer ≡ Err Memory)
IsMadeOf (Ok setup) (Ok ts) list answer =
    IsNewOrRefused setup ts list answer ⊎ (answer ≡ Err Memory)

-- A control station is made of the settings, the terminals and the poll list, or the answer is a
-- fault.
abbrev pub IsMade : Settings → List StoredAddresses → List ℕ → Result ControlValue Fault → Type 0
IsMade settings terminals list answer =
    IsMadeOf (setup_in settings) (terminals_in terminals) list answer
