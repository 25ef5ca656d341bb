-- What was given of the rows so far.
use Rattle.std.proofs.Common.{◌≡◌, map, take}
use Rattle.clap.specs.Words.{found_of, rows_of}
use Rattle.bsc_options.specs.Entries.{entry_value}
use Rattle.bsc_options.specs.Words.{given_value}
use Rattle.bsc_words.specs.Options.{words_in}
use Rattle.bsc_words.proofs.given.words_of.Given as goal

abbrev pub invariant-entries : goal.invariant-entries
invariant-entries l =
    map given_value l.given.items
    ≡ words_in (map entry_value (take l.entry-index l.entries)) (rows_of (found_of l.matches))
