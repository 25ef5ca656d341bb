-- Which of a terminal's addresses a call names (GA27-3004: polling and selection).
use Rattle.std.specs.Prelude.{ℕ, Bool, ◌==◌, List, Option, None, Some, if◌then◌else◌}
use Rattle.std.specs.List.{position}
use lib.Pointwise.{pointwise}
use Rattle.bsc_bid.specs.Terminal.{TerminalValue}
use Rattle.bsc_tributary.specs.declared.called.Called.{Called}
use Rattle.bsc_tributary.specs.declared.called.Called.TheVariants.{Polling, Selection, Other}

-- the same address, code by code
abbrev pub is_same : List ℕ → List ℕ → Bool
is_same = pointwise ◌==◌

-- the selection address of this number, or none of the terminal's own
abbrev pub selection : Option ℕ → Called
selection None = Other
selection (Some s) = Selection s

-- which of the terminal's addresses a call names
abbrev pub called_as : TerminalValue → List ℕ → Called
called_as t address =
    if is_same address t.poll then Polling else selection (position (is_same address) t.selects)
