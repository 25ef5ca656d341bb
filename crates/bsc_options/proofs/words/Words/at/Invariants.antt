-- No row that was passed has the name.
use Rattle.std.proofs.Common.{◌≡◌, map, drop}
use Rattle.bsc_options.specs.Words.{given_at, given_value, words_value}
use Rattle.bsc_options.proofs.words.Words.at.Given as goal

abbrev pub invariant-given : goal.invariant-given
invariant-given l =
    given_at l.id (map given_value (drop l.given-index l.given-items))
    ≡ given_at l.id (words_value l.self)
