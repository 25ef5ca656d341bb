-- The numbers that say what was made.
use Rattle.std.specs.Prelude.{ℕ, nat_eq, ◌||◌, Bool, Option, Some, None}
use Rattle.bsc_embed.specs.declared.handles.kind.TheConstants.{NOTHING, TERMINAL, CONTROL, LINE}
use Rattle.bsc_embed.specs.declared.handles.made.Made.{Made}
use Rattle.bsc_embed.specs.declared.handles.made.Made.TheVariants as made

-- The number of what was made.
abbrev pub kind_of : Option Made → ℕ
kind_of None = NOTHING
kind_of (Some (made.Terminal t)) = TERMINAL
kind_of (Some (made.Control c)) = CONTROL
kind_of (Some (made.Line l)) = LINE

-- Whether this is the number of something that was made.
abbrev pub is_kind : ℕ → Bool
is_kind number = nat_eq number TERMINAL || nat_eq number CONTROL || nat_eq number LINE
