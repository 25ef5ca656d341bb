-- Whatever the texts that are left give from here is what all give.
use Rattle.std.proofs.Common.{drop, map, string_bytes, Result}
use Rattle.bsc_options.specs.declared.error.OptionError.{OptionError}
use Rattle.bsc_options.specs.Admission.{ReadsEach, ReadsFrom}
use Rattle.bsc_options.proofs.admission.read_each.Given as goal

abbrev pub invariant-texts : goal.invariant-texts
invariant-texts g l =
    (result : Result g.row.V.Denot OptionError)
    → ReadsEach g.V.Given.adds (map string_bytes (drop l.text-index l.texts)) l.value result
    → ReadsFrom g.V.Given.begins g.V.Given.adds (map string_bytes l.texts) result
