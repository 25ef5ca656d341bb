-- The addresses of terminals that C gives.
use Rattle.std.specs.Prelude.{ℕ, nat_eq, nat_le, nat_lt, ◌||◌, if◌then◌else◌, List, [], ◌∷◌, take}
use Rattle.std.specs.Prelude.{Option, Some, None, Result, Ok, Err}
use Rattle.std.specs.Result.{result_ok}
use Rattle.bsc_frame.specs.Message.{read_address}
use Rattle.bsc_frame.specs.declared.limits.TheConstants.{MAX_ADDRESS}
use Rattle.bsc_bid.specs.Terminal.{TerminalValue}
use Rattle.bsc_bid.specs.declared.limits.TheConstants.{MAX_SELECTS}
use Rattle.bsc_embed.specs.declared.interface.addresses.StoredAddress.{StoredAddress}
use Rattle.bsc_embed.specs.declared.interface.addresses.StoredAddresses.{StoredAddresses}
use Rattle.bsc_embed.specs.declared.interface.fault.Fault.{Fault}
use Rattle.bsc_embed.specs.declared.interface.fault.Fault.TheVariants.{Address, Selects}

-- An address: its first len codes, at most 7.
unfoldable pub address_in : StoredAddress → Option (List ℕ)
address_in a =
    if nat_le a.len MAX_ADDRESS then result_ok (read_address (take a.len a.chars)) else None

-- The list of addresses, if each of them is one.
abbrev pub before_address : Option (List ℕ) → Option (List (List ℕ)) → Option (List (List ℕ))
before_address None rest = None
before_address (Some a) None = None
before_address (Some a) (Some rest) = Some (a ∷ rest)

abbrev pub addresses_in : List StoredAddress → Option (List (List ℕ))
addresses_in [] = Some []
addresses_in (a ∷ rest) = before_address (address_in a) (addresses_in rest)

-- A terminal with this polling address and these selection addresses, if all are addresses.
abbrev pub with_addresses
    : Option (List ℕ) → Option (List (List ℕ)) → Result TerminalValue Fault
with_addresses None selects = Err Address
with_addresses (Some poll) None = Err Address
with_addresses (Some poll) (Some selects) = Ok (record { poll = poll; selects = selects })

-- A terminal: its polling address and its first count selection addresses, 1 to 4.
abbrev pub terminal_in : StoredAddresses → Result TerminalValue Fault
terminal_in t =
    if nat_eq t.count 0 || nat_lt MAX_SELECTS t.count then Err Selects
    else with_addresses (address_in t.poll) (addresses_in (take t.count t.selects))

-- The terminals in order, or the fault of the first that is none.
abbrev pub before_terminal
    : Result TerminalValue Fault → Result (List TerminalValue) Fault
    → Result (List TerminalValue) Fault
before_terminal (Err f) ts = Err f
before_terminal (Ok t) (Err f) = Err f
before_terminal (Ok t) (Ok ts) = Ok (t ∷ ts)

abbrev pub terminals_in : List StoredAddresses → Result (List TerminalValue) Fault
terminals_in [] = Ok []
terminals_in (a ∷ rest) = before_terminal (terminal_in a) (terminals_in rest)
