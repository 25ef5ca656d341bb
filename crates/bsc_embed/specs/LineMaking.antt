-- A line that a program in C makes.
use Rattle.std.specs.Prelude.{◌≡◌, ◌⊎◌, ℕ, List, Result, Ok, Err}
use Rattle.bsc_bid.specs.Setup.{SetupValue}
use Rattle.bsc_bid.specs.Terminal.{TerminalValue}
use Rattle.bsc_bid.specs.declared.refusal.SetupError.{SetupError}
use Rattle.bsc_bid.specs.Refusals.{IsAccepted, IsRefused}
use Rattle.bsc_line_model.specs.Line.{LineValue}
use Rattle.bsc_line_model.specs.Kept.{IsNewLine}
use Rattle.bsc_embed.specs.declared.interface.addresses.StoredAddresses.{StoredAddresses}
use Rattle.bsc_embed.specs.declared.interface.fault.Fault.{Fault}
use Rattle.bsc_embed.specs.declared.interface.fault.Fault.TheVariants.{Memory}
use Rattle.bsc_embed.specs.declared.interface.settings.Settings.{Settings}
use Rattle.bsc_embed.specs.Addresses.{terminals_in}
use Rattle.bsc_embed.specs.FromFaults.{setup_fault}
use Rattle.bsc_embed.specs.Settings.{setup_in}

-- The settings and the addresses are some, and the line is a new one of these (GA27-3004:
-- centralised multipoint operation).
pub record IsMade (settings : Settings) (stored : List StoredAddresses) (poll_list : List ℕ)
    (line : LineValue) : Type 0 where
  pub setup : SetupValue
  pub set : setup_in settings ≡ Ok setup
  pub terminals : List TerminalValue
  pub addresses : terminals_in stored ≡ Ok terminals
  pub accepted : IsAccepted terminals poll_list
  pub made : IsNewLine setup terminals poll_list line

-- Terminals and a poll list are refused by the directory of a line (own).
pub record IsRefusedAs (terminals : List TerminalValue) (poll_list : List ℕ) (f : Fault)
    : Type 0 where
  pub error : SetupError
  pub refused : IsRefused terminals poll_list error
  pub fault : f ≡ setup_fault error

-- The fault of the first terminal that is none; or they are terminals that are refused.
abbrev pub AreRefused : Result (List TerminalValue) Fault → List ℕ → Fault → Type 0
AreRefused (Ok terminals) poll_list f = IsRefusedAs terminals poll_list f
AreRefused (Err first) poll_list f = f ≡ first

-- The fault of the settings; or they are settings, and memory ran out or the terminals are refused.
abbrev pub IsNotMade :
    Result SetupValue Fault → List StoredAddresses → List ℕ → Fault → Type 0
IsNotMade (Ok setup) stored poll_list f =
    (f ≡ Memory) ⊎ AreRefused (terminals_in stored) poll_list f
IsNotMade (Err first) stored poll_list f = f ≡ first

-- A line is made of what C gave, or the first fault tells why not.
abbrev pub MakesLine :
    Settings → List StoredAddresses → List ℕ → Result LineValue Fault → Type 0
MakesLine settings stored poll_list (Ok line) = IsMade settings stored poll_list line
MakesLine settings stored poll_list (Err f) = IsNotMade (setup_in settings) stored poll_list f
