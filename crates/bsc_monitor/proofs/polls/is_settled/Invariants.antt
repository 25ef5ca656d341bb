-- The terminals so far are polled exactly if they are to be.
use Rattle.std.proofs.Common.{◌≡◌}
use Rattle.bsc_monitor.specs.Polls.{are_settled}
use Rattle.bsc_monitor.proofs.polls.is_settled.Given as goal

abbrev pub invariant-terminals : goal.invariant-terminals
invariant-terminals g l =
    l.settled
    ≡ are_settled (g.S.LineStation.is_called l.station) (g.M.Presences.wants l.watch) l.terminal
