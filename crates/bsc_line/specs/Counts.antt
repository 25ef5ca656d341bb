-- Numbers in 64 bits, and what an entry of the poll list adds to a round.
use Rattle.std.specs.Prelude.{ℕ, ◌-◌, ◌^◌, min, Bool, if◌then◌else◌}
use Rattle.bsc_control.specs.CallOrder.{is_polled}
use Rattle.bsc_line_model.specs.Line.{LineValue}
use Rattle.bsc_line_model.specs.Rounds.{visit_length}

-- a number in 64 bits, saturated at the greatest that they hold
abbrev pub in_u64 : ℕ → ℕ
in_u64 n = min n (2 ^ 64 - 1)

-- the transmissions of an entry of this terminal, which was visited before or not: none if it is
-- not polled
abbrev pub entry_length : LineValue → Bool → ℕ → ℕ
entry_length l seen t =
    if is_polled l.control t then (if seen then 2 else visit_length l t) else 0
