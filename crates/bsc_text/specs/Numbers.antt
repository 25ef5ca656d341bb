-- Numbers in decimal digits.
use Rattle.std.specs.Prelude.{ℕ, ◌==◌, ◌&&◌, not, nat_le, Bool, List, length, Option, Some, None}
use Rattle.std.specs.Prelude.{if◌then◌else◌}
use Rattle.std.specs.List.{list_all}
use Rattle.std.specs.Char.{is_ascii_digit}
use Rattle.std.specs.Str.Parse.{digits_value}

-- Whether the word has at least one digit, at most `most` digits, and nothing else.
abbrev pub has_digits : ℕ → List ℕ → Bool
has_digits most word =
    not (length word == 0) && nat_le (length word) most && list_all is_ascii_digit word

-- The number of at most `most` digits.
abbrev pub number_of : ℕ → List ℕ → Option ℕ
number_of most word = if has_digits most word then Some (digits_value 10 word) else None

-- The number of a terminal: one to three digits.
abbrev pub terminal_of : List ℕ → Option ℕ
terminal_of word = number_of 3 word

-- The number of a selection address: one digit.
abbrev pub select_of : List ℕ → Option ℕ
select_of word = number_of 1 word
