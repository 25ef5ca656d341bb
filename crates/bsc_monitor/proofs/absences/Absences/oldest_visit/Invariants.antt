-- The first time among the terminals so far.
use Rattle.std.proofs.Common.{◌≡◌}
use Rattle.bsc_monitor.specs.Absences.{oldest_visit}
use Rattle.bsc_monitor.proofs.absences.Absences.oldest_visit.Given as goal

abbrev pub invariant-terminals : goal.invariant-terminals
invariant-terminals l = l.oldest ≡ oldest_visit l.self l.terminal
