-- The last time among the terminals so far.
use Rattle.std.proofs.Common.{◌≡◌}
use Rattle.bsc_monitor.specs.Absences.{last_heard}
use Rattle.bsc_monitor.proofs.absences.Absences.last_heard.Given as goal

abbrev pub invariant-terminals : goal.invariant-terminals
invariant-terminals l = l.last ≡ last_heard l.self l.joined l.terminal
