-- Numbers in decimal digits.
use Rattle.std.specs.Prelude.{ℕ, ◌==◌, ◌&&◌, not, nat_le, Bool, List, length, Option, Some, None}
use Rattle.std.specs.Prelude.{if◌then◌else◌}
use Rattle.std.specs.Str.{all_ascii_digits}
use Rattle.std.specs.Str.Parse.{digits_value, without_leading_plus}

-- The number, if it is from `least` to `most`.
abbrev pub if_within : ℕ → ℕ → ℕ → Option ℕ
if_within least most n = if nat_le least n && nat_le n most then Some n else None

-- Whether a text is a digit or more, and nothing else.
abbrev pub is_numeral : List ℕ → Bool
is_numeral text = not (length text == 0) && all_ascii_digits text

-- The number of a text of digits, if it is from `least` to `most`.
abbrev pub digits_within : ℕ → ℕ → List ℕ → Option ℕ
digits_within least most text =
    if is_numeral text then if_within least most (digits_value 10 text) else None

-- The number that a text spells, if it is from `least` to `most`: decimal digits, with or without
-- one plus sign before them.
abbrev pub number_within : ℕ → ℕ → List ℕ → Option ℕ
number_within least most text = digits_within least most (without_leading_plus text)
