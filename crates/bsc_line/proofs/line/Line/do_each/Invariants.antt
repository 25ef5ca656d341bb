-- The events so far have run.
use Rattle.std.proofs.Common.{Result, drop}
use Rattle.bsc_line_model.specs.declared.error.Stopped.{Stopped}
use Rattle.bsc_line_model.specs.Line.{LineValue}
use Rattle.bsc_line_model.specs.Runs.{RunsFrom, Runs}
use Rattle.bsc_line.proofs.line.Line.do_each.Given as goal

-- any run of the remaining events makes a run of all events
abbrev pub invariant-loop-at : goal.invariant-loop-at
invariant-loop-at g l = (r : Result (Unit {0}) Stopped) (new : LineValue)
    → RunsFrom l.at l.self (drop l.at l.events) r new → Runs l.fn.self l.events r new
