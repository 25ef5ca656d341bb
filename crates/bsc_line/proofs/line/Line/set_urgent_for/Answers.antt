-- `set_urgent_for` does the event `UrgentFor`.
use Rattle.std.proofs.Common.{◌<◌, length, subst, arith, ℕ}
use Rattle.bsc_line_model.specs.Line.{LineValue, line_of}
use Rattle.bsc_line.proofs.line.Line.set_urgent_for.Goals as goal

pub invariant_of-self : goal.invariant_of-self
invariant_of-self g c =
    let peer : c.args.terminal < length c.self.inside.control.peers = omega arith in
    let there : c.args.terminal < length c.self.inside.terminals.items =
    subst (λ (n : ℕ). c.args.terminal < n) c.self.invariant.stations.count peer in
    let old : LineValue =
    line_of c.self.inside.control c.self.inside.terminals.items c.self.inside.sent
    c.self.inside.trusted c.self.inside.addressed in
    c.each_event.ensures.urgent_for old c.args.terminal c.set_urgent.new.self c.self.invariant
    there c.set_urgent.ensures.control c.set_urgent.ensures.state

pub returns-clause-line : goal.returns-clause-line
returns-clause-line g c = invariant_of-self g c
