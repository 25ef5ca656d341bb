-- How the time of a trace is divided.
use Rattle.std.specs.Prelude.{ℕ, ◌+◌, ◌-◌, ◌*◌, ◌/◌, nat_lt, List, [], ◌∷◌, Option, Some, None}
use Rattle.std.specs.Prelude.{if◌then◌else◌}
use Rattle.bsc_trace.specs.Rows.{RowValue, arrow, mark, silence}
use Rattle.bsc_chart.specs.declared.summary.clock.Clock.{Clock}

-- A number of milliseconds, at most 100,000,000,000.
abbrev pub capped : ℕ → ℕ
capped n = if nat_lt n 100000000000 then n else 100000000000

-- The milliseconds of decimal digits with this value and one more digit.
abbrev pub with_digit : ℕ → ℕ → ℕ
with_digit n digit = capped (10 * n + (digit - 48))

-- The milliseconds of decimal digits that come after some with this value.
abbrev pub milliseconds_from : ℕ → List ℕ → ℕ
milliseconds_from n [] = n
milliseconds_from n (digit ∷ digits) = milliseconds_from (with_digit n digit) digits

-- The milliseconds of a time in decimal digits.
abbrev pub milliseconds_of : List ℕ → ℕ
milliseconds_of time = milliseconds_from 0 time

-- The time of the last transmission or silence, if there was one, and the milliseconds before
-- transmissions and before silences since the first of them.
pub record ClockValue : Type 0 where
  pub last : Option ℕ
  pub spoken : ℕ
  pub silent : ℕ

abbrev pub clock_in : Clock → ClockValue
clock_in c = record { last = c.last; spoken = c.spoken; silent = c.silent }

abbrev pub new_clock : ClockValue
new_clock = record { last = None; spoken = 0; silent = 0 }

-- The milliseconds since a time: none if there is no such time, or if it is later.
abbrev pub since : Option ℕ → ℕ → ℕ
since None now = 0
since (Some last) now = now - last

abbrev pub spoken_at : ℕ → ClockValue → ClockValue
spoken_at now c =
    record { last = Some now; spoken = c.spoken + since c.last now; silent = c.silent }

abbrev pub silent_at : ℕ → ClockValue → ClockValue
silent_at now c =
    record { last = Some now; spoken = c.spoken; silent = c.silent + since c.last now }

-- What passed before a transmission is counted for transmissions, what passed before a silence for
-- silences. A mark counts nothing.
abbrev pub clock_after : ClockValue → RowValue → ClockValue
clock_after c (arrow time course f name note octets) = spoken_at (milliseconds_of time) c
clock_after c (silence time) = silent_at (milliseconds_of time) c
clock_after c (mark time m text) = c

abbrev pub clock_from : ClockValue → List RowValue → ClockValue
clock_from c [] = c
clock_from c (row ∷ rows) = clock_from (clock_after c row) rows

-- The clock after all rows.
abbrev pub clock_of : List RowValue → ClockValue
clock_of rows = clock_from new_clock rows

-- The share of silences in tenths of a percent, rounded down.
abbrev pub silent_tenths : ClockValue → ℕ
silent_tenths c = c.silent * 1000 / (c.spoken + c.silent)
