-- The terminals so far that are present are counted.
use Rattle.std.proofs.Common.{◌≡◌, ◌≤◌}
use Rattle.bsc_monitor.specs.Absences.{present}
use Rattle.bsc_monitor.proofs.absences.Absences.present.Given as goal

abbrev pub invariant-terminals : goal.invariant-terminals
invariant-terminals l =
    (l.present ≡ present l.self l.terminal) × (l.present ≤ l.terminal)
