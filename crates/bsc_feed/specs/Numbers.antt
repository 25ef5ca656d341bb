-- Numbers of records, in decimal digits.
use Rattle.std.specs.Prelude.{ℕ, ◌^◌, nat_lt, List, Option, Some, None, if◌then◌else◌}
use Rattle.std.specs.Option.{option_and_then}
use Rattle.bsc_text.specs.Numbers.{number_of}

-- The number, if it is below 2^32.
abbrev pub if_counts : ℕ → Option ℕ
if_counts n = if nat_lt n (2 ^ 32) then Some n else None

-- A number of records: one to ten digits, below 2^32.
abbrev pub count_of : List ℕ → Option ℕ
count_of word = option_and_then if_counts (number_of 10 word)
