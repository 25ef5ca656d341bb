-- The lines of the trace before the first event: the addresses of each terminal.
use Rattle.std.specs.Prelude.{ℕ, Bool, if◌then◌else◌, List, [], ◌++◌, length, codes}
use Rattle.std.specs.Prelude.{Option, Some, None, slice_get}
use Rattle.std.specs.List.{flat_map}
use Rattle.std.specs.Fmt.{decimal}
use Rattle.bsc_bid.specs.Terminal.{TerminalValue}
use Rattle.bsc_text.specs.Channels.{each_below}
use Rattle.bsc_text.specs.Traces.{time_shown}

-- An address, after a space.
abbrev pub address_shown : List ℕ → List ℕ
address_shown address = codes " " ++ address

-- The line for terminal t. The full stop keeps the last address from being read as octets.
abbrev pub address_line : ℕ → TerminalValue → List ℕ
address_line t terminal =
    time_shown 0 ++ codes "terminal " ++ decimal t ++ codes " is " ++ terminal.poll
    ++ codes ", selected as" ++ flat_map address_shown terminal.selects ++ codes ".\n"

-- The same, if the terminal is there.
abbrev pub address_line_of : ℕ → Option TerminalValue → List ℕ
address_line_of t None = []
address_line_of t (Some terminal) = address_line t terminal

-- The lines for these terminals, in order.
abbrev pub address_lines : List TerminalValue → List ℕ
address_lines terminals =
    each_below (λ t. address_line_of t (slice_get terminals t)) (length terminals)

-- The lines, if there is a trace.
abbrev pub addresses_traced : Bool → List TerminalValue → List ℕ
addresses_traced tracing terminals = if tracing then address_lines terminals else []
