-- The channels to the selection addresses so far are there.
use Rattle.std.proofs.Common.{◌≡◌, ◌++◌}
use Rattle.bsc_run.specs.Changes.{standings_to}
use Rattle.bsc_run.proofs.standing.push_terminal.Given as goal

abbrev pub invariant-selects : goal.invariant-selects
invariant-selects g l =
    l.channels.items ≡ l.initial.channels.items ++ standings_to l.line l.terminal l.select
