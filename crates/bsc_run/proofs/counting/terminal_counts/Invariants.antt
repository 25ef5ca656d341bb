-- The counts are those of the channel from the terminal and the channels to it so far.
use Rattle.std.proofs.Common.{◌≡◌}
use Rattle.bsc_bid.specs.declared.way.Way.TheVariants.{FromTerminal, ToTerminal}
use Rattle.bsc_text.specs.Counts.{counted}
use Rattle.bsc_run.specs.Counting.{channel_counts}
use Rattle.bsc_run.proofs.counting.terminal_counts.Given as goal

abbrev pub invariant-selects : goal.invariant-selects
invariant-selects g l =
    l.counts ≡ counted (channel_counts l.line l.terminal FromTerminal)
    (λ s. channel_counts l.line l.terminal (ToTerminal s)) l.select
