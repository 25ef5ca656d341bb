-- The arguments so far are as they are printed.
use Rattle.std.proofs.Common.{◌≡◌, map, take, string_bytes}
use Rattle.bsc_text.specs.Forms.{escaped}
use Rattle.bsc_words.proofs.words.words_in_print.Given as goal

abbrev pub invariant-words : goal.invariant-words
invariant-words l =
    map string_bytes l.printed.items ≡ map (λ s. escaped s.now) (take l.word-index l.words)
