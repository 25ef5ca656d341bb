-- The arguments so far have the bytes of the given ones.
use Rattle.std.proofs.Common.{◌≡◌, map, take, string_bytes}
use Rattle.bsc_command.proofs.whole_command.texts_of.Given as goal

abbrev pub invariant-words : goal.invariant-words
invariant-words l = map (λ t. t.now) l.texts.items ≡ map string_bytes (take l.word-index l.words)
