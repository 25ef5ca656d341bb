-- Counts and times in 64 bits, which stay at the largest value.
use Rattle.std.specs.Prelude.{ℕ, ◌+◌, ◌-◌, ◌^◌, min}

-- This many more.
abbrev pub more_by : ℕ → ℕ → ℕ
more_by count n = min (n + count) (2 ^ 64 - 1)

abbrev pub one_more : ℕ → ℕ
one_more n = more_by 1 n
