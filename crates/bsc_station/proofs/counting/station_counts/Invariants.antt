-- The counts are those of the terminals so far.
use Rattle.std.proofs.Common.{◌≡◌}
use Rattle.bsc_text.specs.Counts.{counted, counts_of}
use Rattle.bsc_station.specs.Counting.{terminal_counts}
use Rattle.bsc_station.proofs.counting.station_counts.Given as goal

abbrev pub invariant-terminals : goal.invariant-terminals
invariant-terminals g l =
    l.counts ≡ counted (counts_of l.done 0 0 0)
    (λ t. terminal_counts (g.P.Party.selects l.station t) (g.P.Party.ends l.station t))
    l.terminal
