-- The state is that of the channels of the terminals so far.
use Rattle.std.proofs.Common.{◌≡◌, false}
use Rattle.bsc_station.specs.Ends.{standing_of, terminal_standing, together}
use Rattle.bsc_station.proofs.standings.station_standing.Given as goal

abbrev pub invariant-terminals : goal.invariant-terminals
invariant-terminals g l =
    l.standing ≡ together (standing_of false false)
    (λ t. terminal_standing (g.P.Party.selects l.station t) (g.P.Party.ends l.station t))
    l.terminal
