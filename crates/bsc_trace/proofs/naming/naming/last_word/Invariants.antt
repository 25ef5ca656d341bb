-- The last word of the line is that of the text that remains, which becomes shorter.
use Rattle.std.proofs.Common.{◌≡◌, length}
use Rattle.bsc_text.specs.Parts.{parts_at}
use Rattle.bsc_trace.specs.NamingLines.{last_part}
use Rattle.bsc_trace.proofs.naming.naming.last_word.Given as goal

abbrev pub invariant-words : goal.invariant-words
invariant-words l = last_part (parts_at 32 l.line) ≡ last_part (parts_at 32 l.left)

abbrev pub decreases-words : goal.decreases-words
decreases-words l = length l.left
