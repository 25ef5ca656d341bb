-- Ways to a terminal.
use Rattle.std.specs.Prelude.{ℕ, ◌<◌}
use Rattle.bsc_bid.specs.declared.way.Way.{Way}
use Rattle.bsc_bid.specs.declared.way.Way.TheVariants.{FromTerminal, ToTerminal}

-- the way is to the terminal
abbrev pub IsToTerminal : Way → Type 0
IsToTerminal FromTerminal = ⊥
IsToTerminal (ToTerminal s) = Unit {0}

-- the way is to the terminal, by one of this many selection addresses
abbrev pub IsSelection : Way → ℕ → Type 0
IsSelection FromTerminal count = ⊥
IsSelection (ToTerminal s) count = s < count

-- the number of the selection address
abbrev pub select_of : Way → ℕ
select_of FromTerminal = 0
select_of (ToTerminal s) = s
