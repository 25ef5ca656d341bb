-- The results of `parse` for a number in decimal digits.
use Rattle.std.proofs.Common.{◌≡◌, ◌<◌, ◌^◌, ◌==◌, ℕ, List, Bool, true, false, not}
use Rattle.std.proofs.Common.{length, None, refl, ap, sym, ◌∙◌, arith}
use Rattle.std.specs.Prelude.{if◌then◌else◌}
use Rattle.std.specs.Str.{all_ascii_digits}
use Rattle.std.specs.Str.Parse.{IsNumeral, digits_value}
use Rattle.std.proofs.lemmas.Str.Parse.{IsNumeralModel, numerals_by_value, tells_all_ascii_digits}
use Rattle.std.proofs.lemmas.Bool.{and_parts}
use Rattle.std.proofs.lemmas.Bool.Decides.{nat_tests}
use Rattle.bsc_options.specs.Numbers.{digits_within, if_within, is_numeral}

own : IsNumeralModel (λ ds. all_ascii_digits ds ≡ true) (digits_value 10)
own = numerals_by_value _ tells_all_ascii_digits

-- a numeral, by the test of this crate and by that of `parse`
numeral_is : (ds : List ℕ) → IsNumeral 10 ds → is_numeral ds ≡ true
numeral_is ds h = let all = own.from ds h.1 in let some = h.0 in grind (arith, nat_tests)

numeral_from : (ds : List ℕ) → is_numeral ds ≡ true → IsNumeral 10 ds
numeral_from ds e =
    let tests = and_parts (not (length ds == 0)) (all_ascii_digits ds) e in
    let some : 0 < length ds = grind (arith, nat_tests) in
    (some, own.to ds tests.1)

-- a number that was read
pub was_read : (least most k n : ℕ) (ds : List ℕ)
    → IsNumeral 10 ds × (digits_value 10 ds < 2 ^ k) → n ≡ digits_value 10 ds
    → digits_within least most ds ≡ if_within least most n
was_read least most k n ds h e =
    ap (λ b. if b then if_within least most (digits_value 10 ds) else None) (numeral_is ds h.0)
    ∙ ap (if_within least most) (sym e)

too_high : (least most n : ℕ) (b : Bool) → (b ≡ true → most < n)
    → (if b then if_within least most n else None) ≡ None
too_high least most n true high = let h = high refl in grind (arith, nat_tests)
too_high least most n false high = refl

-- a number that could not be read
pub was_not_read : (least most k : ℕ) (ds : List ℕ) → most < 2 ^ k
    → ¬ (IsNumeral 10 ds × (digits_value 10 ds < 2 ^ k)) → digits_within least most ds ≡ None
was_not_read least most k ds small wrong =
    too_high least most (digits_value 10 ds) (is_numeral ds)
    (λ e. let high : digits_value 10 ds < 2 ^ k → ⊥ = λ below. wrong (numeral_from ds e, below) in
    omega arith)
