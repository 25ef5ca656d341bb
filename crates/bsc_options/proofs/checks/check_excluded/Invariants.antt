-- None of the options that were passed is given.
use Rattle.std.proofs.Common.{◌≡◌, map, drop}
use Rattle.bsc_options.specs.Entries.{entry_value, has_none_of}
use Rattle.bsc_options.specs.Words.{words_value}
use Rattle.bsc_options.proofs.checks.check_excluded.Given as goal

abbrev pub invariant-others : goal.invariant-others
invariant-others l =
    has_none_of (entry_value l.entry).id (words_value l.words)
    (map (λ id. id.now) (drop l.other-index l.other-items))
    ≡ has_none_of (entry_value l.entry).id (words_value l.words) (entry_value l.entry).excludes
