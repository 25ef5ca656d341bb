-- The state is that of the channel from the terminal and the channels to it so far.
use Rattle.std.proofs.Common.{◌≡◌}
use Rattle.bsc_bid.specs.declared.way.Way.TheVariants.{FromTerminal, ToTerminal}
use Rattle.bsc_station.specs.Ends.{standing_at, together}
use Rattle.bsc_station.proofs.standings.terminal_standing.Given as goal

abbrev pub invariant-selects : goal.invariant-selects
invariant-selects g l =
    let ends = g.P.Party.ends l.station l.terminal in
    l.standing ≡ together (standing_at (ends FromTerminal)) (λ s. standing_at (ends (ToTerminal s)))
    l.select
