-- Shows that the number read so far does not overflow and is the value of the digits read.
use Rattle.std.proofs.Common.{◌≡◌, Bool, true, Some, None, take, arith, sym, ap}
use Rattle.std.specs.Prelude.{if◌then◌else◌}
use Rattle.std.specs.Str.Parse.{digits_value}
use Rattle.std.proofs.lemmas.Int.Digits.{digits_value_more}
use Rattle.bsc_text.specs.Numbers.{has_digits}
use Rattle.bsc_text.proofs.Digits.{below_ten_digits, digit_at}
use Rattle.bsc_text.proofs.numbers.read_number.Goals as goal

pub returns-then-not-has_digits : goal.returns-then-not-has_digits
returns-then-not-has_digits c =
    ap (λ (b : Bool). if b then Some (digits_value 10 c.args.word.now) else None)
    c.if-not-has_digits.ensures

pub overflow_mul-number : goal.overflow_mul-number
overflow_mul-number c =
    let digits : has_digits c.args.most c.args.word.now ≡ true = sym c.if-not-has_digits.ensures in
    let front : c.loop-digit.number ≡ digits_value 10
    (take c.loop-digit.digit-index c.args.word.now) = c.loop-digit.invariant in
    let small =
    below_ten_digits c.args.most c.args.word.now c.loop-digit.digit-index c.requires digits in
    omega arith

pub overflow_sub-digit : goal.overflow_sub-digit
overflow_sub-digit c =
    let digits : has_digits c.args.most c.args.word.now ≡ true = sym c.if-not-has_digits.ensures in
    let digit =
    digit_at c.args.most c.args.word.now c.loop-digit.digit-index digits
    c.loop-digit-test.true in
    omega arith

pub overflow_add-number : goal.overflow_add-number
overflow_add-number c =
    let digits : has_digits c.args.most c.args.word.now ≡ true = sym c.if-not-has_digits.ensures in
    let front : c.loop-digit.number ≡ digits_value 10
    (take c.loop-digit.digit-index c.args.word.now) = c.loop-digit.invariant in
    let small =
    below_ten_digits c.args.most c.args.word.now c.loop-digit.digit-index c.requires digits in
    let digit =
    digit_at c.args.most c.args.word.now c.loop-digit.digit-index digits
    c.loop-digit-test.true in
    omega arith

pub loop-digit-preserved : goal.loop-digit-preserved
loop-digit-preserved c =
    let digits : has_digits c.args.most c.args.word.now ≡ true = sym c.if-not-has_digits.ensures in
    let front : c.loop-digit.number ≡ digits_value 10
    (take c.loop-digit.digit-index c.args.word.now) = c.loop-digit.invariant in
    let more =
    digits_value_more 10 c.args.word.now c.loop-digit.digit-index c.loop-digit-test.true in
    let digit =
    digit_at c.args.most c.args.word.now c.loop-digit.digit-index digits
    c.loop-digit-test.true in
    omega arith
