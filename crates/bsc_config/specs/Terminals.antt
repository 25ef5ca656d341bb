-- The terminals of a document.
use Rattle.std.specs.Prelude.{ℕ, ◌+◌, List, [], ◌∷◌, Option, Result, Ok, Err, option_map}
use Rattle.std.specs.Result.{result_ok}
use Rattle.toml.specs.Data.{Data, table, Items, no_items, item, Members}
use Rattle.bsc_bid.specs.Terminal.{TerminalValue, terminal_of}
use Rattle.bsc_config.specs.declared.key.Key.TheVariants.{Terminals, Poll, Select}
use Rattle.bsc_config.specs.declared.values.Version.{Version}
use Rattle.bsc_config.specs.declared.values.Version.TheVariants.{One, Two}
use Rattle.bsc_config.specs.Faults.{Fault, wrong_value, ◌>>=◌}
use Rattle.bsc_config.specs.Tables.{required, tables_in}
use Rattle.bsc_config.specs.Values.{address_in, list_in, or_wrong}

-- The selection addresses: one address in version 1, a list of addresses in version 2.
abbrev pub selects_in : Version → Data → Option (List (List ℕ))
selects_in One value = option_map (λ address. address ∷ []) (address_in value)
selects_in Two value = list_in address_in value

-- The addresses of the terminal with this number. It has one to four selection addresses.
abbrev pub terminal_in : Version → ℕ → Members → Result TerminalValue Fault
terminal_in version number members = do
  poll_value ← required (Poll number) members
  poll ← or_wrong (Poll number) (address_in poll_value)
  select_value ← required (Select number) members
  selects ← or_wrong (Select number) (selects_in version select_value)
  or_wrong (Select number) (result_ok (terminal_of poll selects))

-- The terminal with this number from its value, which must be a table.
abbrev pub terminal_of_value : Version → ℕ → Data → Result TerminalValue Fault
terminal_of_value version number (table members) = terminal_in version number members
terminal_of_value version number _ = Err (wrong_value Terminals)

-- The terminals from these values; `number` is the number of the first.
abbrev pub terminals_of : Version → ℕ → Items → Result (List TerminalValue) Fault
terminals_of version number no_items = Ok []
terminals_of version number (item first rest) = do
  terminal ← terminal_of_value version number first
  terminals ← terminals_of version (number + 1) rest
  Ok (terminal ∷ terminals)

-- The terminals: a list of tables.
abbrev pub terminals_in : Version → Members → Result (List TerminalValue) Fault
terminals_in version document = do
  value ← required Terminals document
  tables ← or_wrong Terminals (tables_in value)
  terminals_of version 0 tables
