-- The terminals of the line on which the tests play.
use Rattle.std.specs.Prelude.{ℕ, List, [], ◌∷◌}
use Rattle.bsc_bid.specs.Terminal.{TerminalValue}

-- a terminal with this polling address and these selection addresses
abbrev pub terminal_value : List ℕ → List (List ℕ) → TerminalValue
terminal_value poll selects = record { poll = poll; selects = selects }

-- the address with this one code
abbrev pub one : ℕ → List ℕ
one code = code ∷ []

-- the terminal that is polled by B and selected by b
abbrev pub terminal_b : TerminalValue
terminal_b = terminal_value (one 0x42) (one 0x62 ∷ [])

-- the terminal that is polled by A and selected by a, and the one that is polled by B
abbrev pub two : List TerminalValue
two = terminal_value (one 0x41) (one 0x61 ∷ []) ∷ terminal_b ∷ []

-- the same two terminals, but the first is also selected by c
abbrev pub two_by_three : List TerminalValue
two_by_three = terminal_value (one 0x41) (one 0x61 ∷ one 0x63 ∷ []) ∷ terminal_b ∷ []
