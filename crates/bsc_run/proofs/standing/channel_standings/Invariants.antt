-- The channels of the terminals so far are there.
use Rattle.std.proofs.Common.{◌≡◌}
use Rattle.bsc_run.specs.Changes.{standings_below}
use Rattle.bsc_run.proofs.standing.channel_standings.Given as goal

abbrev pub invariant-terminals : goal.invariant-terminals
invariant-terminals g l = l.channels.items ≡ standings_below l.line l.terminal
