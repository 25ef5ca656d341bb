-- Making a terminal from what C gives. This is the project's own.
use Rattle.std.specs.Prelude.{◌≡◌, Result, Ok, Err}
use Rattle.bsc_bid.specs.Setup.{SetupValue}
use Rattle.bsc_bid.specs.Terminal.{TerminalValue, HasDistinctAddresses}
use Rattle.bsc_tributary.specs.Tributary.{TributaryValue}
use Rattle.bsc_tributary.specs.Kept.{IsNewTerminal}
use Rattle.bsc_embed.specs.Addresses.{terminal_in}
use Rattle.bsc_embed.specs.Settings.{setup_in}
use Rattle.bsc_embed.specs.declared.interface.addresses.StoredAddresses.{StoredAddresses}
use Rattle.bsc_embed.specs.declared.interface.settings.Settings.{Settings}
use Rattle.bsc_embed.specs.declared.interface.fault.Fault.{Fault}
use Rattle.bsc_embed.specs.declared.interface.fault.Fault.TheVariants.{SameAddress}

-- The answer is a new terminal with these settings and addresses, which all differ; or two of the
-- addresses are the same.
abbrev pub IsNewOrSame : SetupValue → TerminalValue → Result TributaryValue Fault → Type 0
IsNewOrSame setup terminal (Ok t) = IsNewTerminal setup terminal t
IsNewOrSame setup terminal (Err f) = (f ≡ SameAddress) × (HasDistinctAddresses terminal → ⊥)

-- What was read of the settings and then of the addresses: the first fault of these is the answer.
abbrev pub IsMadeOf : Result SetupValue Fault → Result TerminalValue Fault
    → Result TributaryValue Fault → Type 0
IsMadeOf (Err f) addresses answer = answer ≡ Err f
IsMadeOf (Ok setup) (Err f) answer = answer ≡ Err f
IsMadeOf (Ok setup) (Ok terminal) answer = IsNewOrSame setup terminal answer

-- A terminal is made of the settings and the addresses, or the answer is a fault.
abbrev pub IsMade : Settings → StoredAddresses → Result TributaryValue Fault → Type 0
IsMade settings addresses answer = IsMadeOf (setup_in settings) (terminal_in addresses) answer
