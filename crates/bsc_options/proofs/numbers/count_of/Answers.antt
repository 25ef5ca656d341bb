-- Shows that the number that is read is the one that the text spells.
use Rattle.std.proofs.Common.{◌≡◌, ◌<◌, ◌-◌, ◌^◌, Some, sym, ◌∙◌, arith, lit<}
use Rattle.std.specs.Str.Parse.{without_leading_plus}
use Rattle.std.proofs.lemmas.Bool.Decides.{nat_tests}
use Rattle.bsc_options.specs.Numbers.{if_within}
use Rattle.bsc_options.proofs.Numerals.{was_not_read, was_read}
use Rattle.bsc_options.proofs.numbers.count_of.Goals as goal

pub returns-in-Ok : goal.returns-in-Ok
returns-in-Ok c =
    let n = c.in-Ok.number in
    let read = c.in-Ok.ensures.value.0 in
    let below : n < 2 ^ 32 = omega arith in
    let inside : if_within 0 (2 ^ 32 - 1) n ≡ Some n = grind (arith, nat_tests) in
    sym (was_read 0 (2 ^ 32 - 1) 32 n (without_leading_plus c.args.text.now) read.0 read.1 ∙ inside)

pub returns-in-Err : goal.returns-in-Err
returns-in-Err c =
    sym (was_not_read 0 (2 ^ 32 - 1) 32 (without_leading_plus c.args.text.now) (lit< tt)
    c.in-Err.ensures.value.0)
