-- The items of the text are those read so far and those of the rest, which becomes shorter.
use Rattle.std.proofs.Common.{◌≡◌, length}
use Rattle.bsc_config.specs.Transmissions.{items_of}
use Rattle.bsc_text.specs.Words.{words_of}
use Rattle.bsc_config.proofs.ScriptItems.{after_items}
use Rattle.bsc_config.proofs.script.reading.read_items.Given as goal

abbrev pub invariant-words : goal.invariant-words
invariant-words g l = items_of (words_of l.text)
    ≡ after_items l.items.items (items_of (words_of l.left))

abbrev pub decreases-words : goal.decreases-words
decreases-words g l = length l.left
