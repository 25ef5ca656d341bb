-- The counts are those of the channel from the terminal and the channels to it so far.
use Rattle.std.proofs.Common.{◌≡◌}
use Rattle.bsc_bid.specs.declared.way.Way.TheVariants.{FromTerminal, ToTerminal}
use Rattle.bsc_text.specs.Counts.{counted}
use Rattle.bsc_station.specs.Counting.{counts_at}
use Rattle.bsc_station.proofs.counting.terminal_counts.Given as goal

abbrev pub invariant-selects : goal.invariant-selects
invariant-selects g l =
    let ends = g.P.Party.ends l.station l.terminal in
    l.counts ≡ counted (counts_at (ends FromTerminal)) (λ s. counts_at (ends (ToTerminal s)))
    l.select
