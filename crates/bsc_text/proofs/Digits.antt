-- The values of numbers with at most ten digits.
use Rattle.std.proofs.Common.{◌≡◌, ◌<◌, ◌≤◌, ◌^◌, ◌+◌, ◌==◌, ◌&&◌, ℕ, List, [], ◌∷◌, true, not}
use Rattle.std.proofs.Common.{length, take, get_or, arith}
use Rattle.std.specs.Prelude.{nat_le}
use Rattle.std.specs.Char.{is_ascii_digit, digit_value}
use Rattle.std.specs.Int.{IsInRange}
use Rattle.std.specs.List.{list_all}
use Rattle.std.specs.Str.Parse.{AllDigits, digits_value}
use Rattle.std.proofs.Math.Nat.{pow-le-pow_right}
use Rattle.std.proofs.lemmas.Bool.{and_parts, leb-true}
use Rattle.std.proofs.lemmas.Int.Digits.{digits_value-lt}
use Rattle.std.proofs.lemmas.List.Sums.{AllPass-from_list_all}
use Rattle.std.proofs.lemmas.Str.{digit_value_digit}
use Rattle.std.proofs.lemmas.Str.Parse.{digits_value-take-le}
use Rattle.bsc_text.specs.Numbers.{has_digits}

digit_range : (c : ℕ) → is_ascii_digit c ≡ true → IsInRange 48 57 c
digit_range c e = let p = and_parts _ _ e in (leb-true 48 c p.0, leb-true c 57 p.1)

all_digits : (word : List ℕ) → list_all is_ascii_digit word ≡ true → AllDigits 10 word
all_digits [] e = tt
all_digits (c ∷ word) e =
    let p = and_parts (is_ascii_digit c) (list_all is_ascii_digit word) e in
    let range = digit_range c p.0 in
    let value = digit_value_digit c range in
    (omega arith, all_digits word p.1)

-- the character at each index is a digit, with its value
pub digit_at : (most : ℕ) (word : List ℕ) (i : ℕ) → has_digits most word ≡ true → i < length word
    → (48 ≤ get_or word i 0) × (get_or word i 0 ≤ 57)
    × (digit_value (get_or word i 0) + 48 ≡ get_or word i 0)
digit_at most word i e below =
    let tests =
    and_parts (not (length word == 0) && nat_le (length word) most) (list_all is_ascii_digit word)
    e in
    let range =
    digit_range (get_or word i 0) (AllPass-from_list_all is_ascii_digit word tests.1 i 0
    below) in
    (range.0, range.1, digit_value_digit (get_or word i 0) range)

-- at most ten digits, and every prefix of them, are below 10 ^ 10
pub below_ten_digits : (most : ℕ) (word : List ℕ) (i : ℕ) → most ≤ 10
    → has_digits most word ≡ true → digits_value 10 (take i word) < 10 ^ 10
below_ten_digits most word i few e =
    let tests =
    and_parts (not (length word == 0) && nat_le (length word) most) (list_all is_ascii_digit word)
    e in
    let short =
    leb-true (length word) most (and_parts (not (length word == 0)) (nat_le (length word) most)
    tests.0).1 in
    let front = digits_value-take-le 10 word i (omega arith) in
    let whole = digits_value-lt 10 word (all_digits word tests.1) in
    let power : 10 ^ length word ≤ 10 ^ 10 =
    pow-le-pow_right {n = 10} (omega arith) {i = length word} {j = 10} (omega arith) in
    omega arith
