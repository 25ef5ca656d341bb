-- The options that were passed are given.
use Rattle.std.proofs.Common.{◌≡◌, map, drop}
use Rattle.bsc_options.specs.Entries.{entry_value, has_needed}
use Rattle.bsc_options.specs.Words.{words_value}
use Rattle.bsc_options.proofs.checks.check_needed.Given as goal

abbrev pub invariant-needed : goal.invariant-needed
invariant-needed l =
    has_needed (entry_value l.entry).id (words_value l.words)
    (map (λ id. id.now) (drop l.needed-index l.needed-items))
    ≡ has_needed (entry_value l.entry).id (words_value l.words) (entry_value l.entry).needs
