-- `restart_control` lets the control station begin again, and keeps the line's invariant.
use Rattle.std.proofs.Common.{subst}
use Rattle.bsc_control.specs.Kept.{IsControl}
use Rattle.bsc_bid.specs.declared.speaker.Speaker.TheVariants.{Control}
use Rattle.bsc_line_model.specs.Kept.{IsLine}
use Rattle.bsc_line_model.specs.Line.{LineValue, line_of}
use Rattle.bsc_line_model.specs.Restarts.{restarted}
use Rattle.bsc_line.proofs.line.Line.restart_control.Goals as goal

pub invariant_of-self : goal.invariant_of-self
invariant_of-self g c =
    let old : LineValue =
    line_of c.self.inside.control c.self.inside.terminals.items c.self.inside.sent
    c.self.inside.trusted c.self.inside.addressed in
    let line : IsLine (restarted old Control) =
    c.each_event.ensures.restart old Control c.self.invariant tt
    (subst IsControl c.restart.ensures.state c.restart.ensures.control) in
    rw (c.restart.ensures.state, c.lose.ensures) line

pub returns-clause-line : goal.returns-clause-line
returns-clause-line g c = invariant_of-self g c
