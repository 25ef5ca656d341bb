-- The words so far were appended.
use Rattle.std.proofs.Common.{◌≡◌, ◌∷◌, ◌++◌, map, take, string_bytes}
use Rattle.std.specs.List.{flat_map}
use Rattle.bsc_clients.proofs.command.given.add_words.Given as goal

abbrev pub invariant-words : goal.invariant-words
invariant-words g l =
    l.text.items
    ≡ l.fn.text.items ++ flat_map (λ word. 32 ∷ word) (map string_bytes (take l.word-index l.words))
