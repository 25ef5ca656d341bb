-- Shows that dropping the first word keeps the last word.
use Rattle.std.proofs.Common.{ap, ◌∙◌}
use Rattle.bsc_trace.specs.NamingLines.{last_part}
use Rattle.bsc_trace.proofs.Parts.{last_part_more}
use Rattle.bsc_trace.proofs.naming.naming.last_word.Goals as goal

pub words-preserved : goal.words-preserved
words-preserved c =
    c.words.invariant ∙ ap last_part (rw c.in-Some.is at c.split_at_first.ensures.more)
    ∙ last_part_more 32 c.split_at_first.result.0.now c.in-Some.rest.now
