-- The counts are those of the terminals so far.
use Rattle.std.proofs.Common.{◌≡◌}
use Rattle.bsc_text.specs.Counts.{counted, counts_of}
use Rattle.bsc_run.specs.Counting.{terminal_counts}
use Rattle.bsc_run.proofs.counting.line_counts.Given as goal

abbrev pub invariant-terminals : goal.invariant-terminals
invariant-terminals g l =
    l.counts ≡ counted (counts_of l.events 0 0 0) (terminal_counts l.line) l.terminal
