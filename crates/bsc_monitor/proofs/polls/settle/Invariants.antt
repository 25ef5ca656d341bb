-- The terminals so far are polled exactly if they are to be, and as many are known.
use Rattle.std.proofs.Common.{◌≡◌}
use Rattle.bsc_monitor.specs.Polls.{Settles}
use Rattle.bsc_monitor.proofs.polls.settle.Given as goal

abbrev pub invariant-terminals : goal.invariant-terminals
invariant-terminals g l =
    Settles g.S.LineStation.polls (g.M.Presences.wants l.watch) l.terminal l.fn.station l.station
    × (g.S.Party.count l.station ≡ g.S.Party.count l.fn.station)
