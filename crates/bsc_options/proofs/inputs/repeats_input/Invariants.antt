-- Standard input is used once so far if it is used, and otherwise not at all.
use Rattle.std.proofs.Common.{◌≡◌, ◌+◌, take}
use Rattle.std.specs.Prelude.{count_by}
use Rattle.bsc_options.specs.Inputs.{one_if}
use Rattle.bsc_options.specs.Words.{words_value}
use Rattle.bsc_options.proofs.Uses.{names_input, uses_before}
use Rattle.bsc_options.proofs.inputs.repeats_input.Given as goal

abbrev pub invariant-offers : goal.invariant-offers
invariant-offers l =
    one_if l.is_used ≡ uses_before (words_value l.words)
    + count_by (names_input l.speaker) (take l.offer-index l.offer-items)
