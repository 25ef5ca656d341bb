-- Numbers in decimal digits, as a trace has them.
use Rattle.std.proofs.Common.{◌≡◌, ◌<◌, ◌≤◌, ℕ, ◌+◌, ◌-◌, ◌*◌, ◌/◌, ◌%◌, ◌^◌, ◌==◌, ◌&&◌, not}
use Rattle.std.proofs.Common.{List, [], ◌∷◌, ◌++◌, true, false, length, Some, None, decimal}
use Rattle.std.proofs.Common.{refl, ap, ◌∙◌, arith, le-leb, ne_eqb, ⊎_elim}
use Rattle.std.proofs.lemmas.Bool.{and_from, cases_lt, cond-true, not_from_false}
use Rattle.std.proofs.lemmas.Fmt.{decimal_by_steps_wide, decimal_digit, decimal_is_IsNumeral_wide}
use Rattle.std.proofs.lemmas.Fmt.{decimal_step_wide, length-decimal-le_wide}
use Rattle.std.proofs.lemmas.List.Folds.{list_all-append}
use Rattle.std.specs.Char.{is_ascii_digit}
use Rattle.std.specs.List.{list_all}
use Rattle.bsc_trace.specs.Words.{column_in, is_time}
use Rattle.bsc_trace.proofs.PlainWords.{IsWord, word_by}

digit : (d : ℕ) → d < 10 → is_ascii_digit (48 + d) ≡ true
digit d h = and_from _ _ (le-leb 48 (48 + d) (omega arith)) (le-leb (48 + d) 57 (omega arith))

all_digits : (n : ℕ) → n < 10 ^ 64 → list_all is_ascii_digit (decimal n) ≡ true
all_digits n small =
    decimal_by_steps_wide (λ m ds. list_all is_ascii_digit ds ≡ true) (λ m below. one m below)
    (λ m ds above all. more m ds all) n small
  where
    one : (m : ℕ) → m < 10 → list_all is_ascii_digit ((48 + m) ∷ []) ≡ true
    one m below = and_from (is_ascii_digit (48 + m)) true (digit m below) refl

    more : (m : ℕ) (ds : List ℕ) → list_all is_ascii_digit ds ≡ true
        → list_all is_ascii_digit (ds ++ (48 + m % 10) ∷ []) ≡ true
    more m ds all =
        list_all-append is_ascii_digit ds ((48 + m % 10) ∷ [])
        ∙ and_from (list_all is_ascii_digit ds) _ all (one (m % 10) (omega arith))

pub number_is_word : (n : ℕ) → n < 10 ^ 64 → IsWord (decimal n)
number_is_word n small = word_by is_ascii_digit (decimal n) refl (all_digits n small)

time_by : (word : List ℕ) → 0 < length word → length word ≤ 20
    → list_all is_ascii_digit word ≡ true → is_time word ≡ true
time_by word some short digits =
    let nonempty : (length word == 0) ≡ false = ne_eqb (length word) 0 (λ e. omega arith) in
    and_from _ _ (and_from _ _ (not_from_false _ nonempty) (le-leb (length word) 20 short)) digits

-- the digits of a time are a time
pub time_is_read : (time : ℕ) → time < 10 ^ 20 → is_time (decimal time) ≡ true
time_is_read time h =
    let small : time < 10 ^ 64 = omega arith in
    time_by (decimal time) (decimal_is_IsNumeral_wide time small).0.0
    (length-decimal-le_wide 20 time (omega arith) h small) (all_digits time small)

-- the number of a station from its digits
one_digit : (n : ℕ) → n < 10 → column_in ((48 + n) ∷ []) ≡ Some n
one_digit n h =
    let same : 48 + n - 48 ≡ n = omega arith in
    cond-true (is_ascii_digit (48 + n)) (Some (48 + n - 48)) None (digit n h) ∙ ap Some same

two_digits : (ten unit : ℕ) → 0 < ten → ten < 10 → unit < 10
    → column_in ((48 + ten) ∷ (48 + unit) ∷ []) ≡ Some (ten * 10 + unit)
two_digits ten unit some h k =
    let nonzero : (48 + ten == 48) ≡ false = ne_eqb (48 + ten) 48 (λ e. omega arith) in
    let same : (48 + ten - 48) * 10 + (48 + unit - 48) ≡ ten * 10 + unit = omega arith in
    cond-true (not (48 + ten == 48) && is_ascii_digit (48 + ten) && is_ascii_digit (48 + unit))
    (Some ((48 + ten - 48) * 10 + (48 + unit - 48))) None
    (and_from _ _ (and_from _ _ (not_from_false _ nonzero) (digit ten h)) (digit unit k))
    ∙ ap Some same

pub column_is_read : (n : ℕ) → n < 100 → column_in (decimal n) ≡ Some n
column_is_read n h = ⊎_elim one two (cases_lt n 10)
  where
    one : n < 10 → column_in (decimal n) ≡ Some n
    one below = ap column_in (decimal_digit n below) ∙ one_digit n below

    two : 10 ≤ n → column_in (decimal n) ≡ Some n
    two above =
        let ten : decimal (n / 10) ≡ (48 + n / 10) ∷ [] = decimal_digit (n / 10) (omega arith) in
        let same : n / 10 * 10 + n % 10 ≡ n = omega arith in
        ap column_in (decimal_step_wide n above (omega arith)
        ∙ ap (λ ds. ds ++ (48 + n % 10) ∷ []) ten)
        ∙ two_digits (n / 10) (n % 10) (omega arith) (omega arith) (omega arith) ∙ ap Some same
