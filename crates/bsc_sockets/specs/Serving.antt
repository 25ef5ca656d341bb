-- How many events are served before the end of a time is told that has passed.
use Rattle.std.specs.Prelude.{ℕ, ◌+◌, ◌*◌, ◌-◌, ◌^◌, min, nat_lt, Bool, true, false}
use Rattle.std.specs.Prelude.{if◌then◌else◌}
use Rattle.bsc_sockets.specs.declared.waiting.TheConstants.{MAX_SERVED_OVERDUE}

-- A number up to the greatest of 64 bits.
abbrev pub bounded : ℕ → ℕ
bounded number = min number (2 ^ 64 - 1)

-- How many events were served since a time has passed whose end is not told yet, with the next one.
-- The flag says whether no time is left.
abbrev pub served_overdue : Bool → ℕ → ℕ
served_overdue true served = bounded (served + 1)
served_overdue false served = 0

-- The most of them, with this many places for connections and that of the listener.
abbrev pub most_overdue : ℕ → ℕ
most_overdue places = bounded (bounded (places + 1) * MAX_SERVED_OVERDUE)

-- Whether the end is told now, after this many were served.
abbrev pub is_overdue : ℕ → ℕ → Bool
is_overdue places served = nat_lt (most_overdue places) served

-- How many were served after that.
abbrev pub served_after : ℕ → ℕ → ℕ
served_after places served = if is_overdue places served then 0 else served
