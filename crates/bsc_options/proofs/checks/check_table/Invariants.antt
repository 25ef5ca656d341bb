-- The options that were passed fit.
use Rattle.std.proofs.Common.{◌≡◌, map, drop}
use Rattle.bsc_options.specs.Entries.{entry_value, fits_table}
use Rattle.bsc_options.specs.Words.{words_value}
use Rattle.bsc_options.proofs.checks.check_table.Given as goal

abbrev pub invariant-entries : goal.invariant-entries
invariant-entries l =
    fits_table (words_value l.words) (map entry_value (drop l.entry-index l.entries))
    ≡ fits_table (words_value l.words) (map entry_value l.entries)
