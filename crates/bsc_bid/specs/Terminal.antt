-- The addresses of a terminal (GA27-3004, polling and selection). Several selection addresses are
-- this project's own.
use Rattle.std.specs.Prelude.{◌≡◌, ◌≢◌, ◌<◌, ◌≤◌, ◌-◌, ℕ, List, ◌∷◌, ◌++◌, length, take, replicate}
use Rattle.std.specs.Prelude.{nat_lt, nat_eq, ◌||◌, if◌then◌else◌, Result, Ok, Err}
use Rattle.std.specs.List.{AllPairs}
use Rattle.bsc_bid.specs.declared.limits.TheConstants.{MAX_SELECTS}
use Rattle.bsc_bid.specs.declared.terminal.TerminalError.{TerminalError}
use Rattle.bsc_bid.specs.declared.terminal.TerminalError.TheVariants.{Count}

-- The address by which a terminal is polled, and those by which it is selected.
pub record TerminalValue : Type 0 where
  pub poll : List ℕ
  pub selects : List (List ℕ)

-- A terminal has one to four selection addresses.
pub record IsTerminal (t : TerminalValue) : Type 0 where
  pub some : 0 < length t.selects
  pub most : length t.selects ≤ MAX_SELECTS

-- The addresses of a terminal: the polling address, then the selection addresses in order.
abbrev pub own_addresses : TerminalValue → List (List ℕ)
own_addresses t = t.poll ∷ t.selects

-- No two addresses of a terminal are the same.
abbrev pub HasDistinctAddresses : TerminalValue → Type 0
HasDistinctAddresses t = AllPairs (λ a b. a ≢ b) (own_addresses t)

-- The selection addresses as they lie in a table of four, followed by the polling address.
abbrev pub address_table : List ℕ → List (List ℕ) → List (List ℕ)
address_table poll selects = selects ++ replicate (MAX_SELECTS - length selects) poll

-- A table whose first `count` places are the selection addresses.
pub record HoldsSelects (poll : List ℕ) (table : List (List ℕ)) (count : ℕ) : Type 0 where
  pub terminal : IsTerminal (record { poll = poll; selects = take count table })
  pub long : length (take count table) ≡ count
  pub rest : address_table poll (take count table) ≡ table

-- The terminal with these addresses, unless there are no selection addresses or more than four.
abbrev pub terminal_of : List ℕ → List (List ℕ) → Result TerminalValue TerminalError
terminal_of poll selects =
    if nat_eq (length selects) 0 || nat_lt MAX_SELECTS (length selects) then Err Count
    else Ok (record { poll = poll; selects = selects })
