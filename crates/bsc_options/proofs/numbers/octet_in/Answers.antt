-- Shows that the number that is read is the one that the text spells.
use Rattle.std.proofs.Common.{◌≡◌, ◌<◌, Some, sym, ◌∙◌, ap, arith, lit<}
use Rattle.std.specs.Str.Parse.{without_leading_plus}
use Rattle.std.proofs.lemmas.Bool.Decides.{nat_tests}
use Rattle.bsc_options.specs.Numbers.{if_within}
use Rattle.bsc_options.proofs.Numerals.{was_not_read, was_read}
use Rattle.bsc_options.proofs.numbers.octet_in.Goals as goal

pub returns-in-Ok-clause-number : goal.returns-in-Ok-clause-number
returns-in-Ok-clause-number c =
    let n = c.in-Ok.number in
    let read = c.in-Ok.ensures.value.0 in
    let below : n < 256 = omega arith in
    let inside : if_within 0 255 n ≡ Some n = grind (arith, nat_tests) in
    ap Some c.from.ensures
    ∙ sym (was_read 0 255 8 n (without_leading_plus c.args.text.now) read.0 read.1 ∙ inside)

pub returns-in-Err-clause-number : goal.returns-in-Err-clause-number
returns-in-Err-clause-number c =
    sym (was_not_read 0 255 8 (without_leading_plus c.args.text.now) (lit< tt)
    c.in-Err.ensures.value.0)
