-- `set_polled` does the event `Polled`.
use Rattle.std.proofs.Common.{◌<◌, length, subst, arith, ℕ}
use Rattle.bsc_line_model.specs.Line.{LineValue, line_of}
use Rattle.bsc_line.proofs.line.Line.set_polled.Goals as goal

pub invariant_of-self : goal.invariant_of-self
invariant_of-self g c =
    let peer : c.args.terminal < length c.self.inside.control.peers = omega arith in
    let there : c.args.terminal < length c.self.inside.terminals.items =
    subst (λ (n : ℕ). c.args.terminal < n) c.self.invariant.stations.count peer in
    let old : LineValue =
    line_of c.self.inside.control c.self.inside.terminals.items c.self.inside.sent
    c.self.inside.trusted c.self.inside.addressed in
    c.each_event.ensures.polled old c.args.terminal c.args.polled c.set_polled.new.self
    c.self.invariant
    there c.set_polled.ensures.control c.set_polled.ensures.state

pub returns-clause-line : goal.returns-clause-line
returns-clause-line g c = invariant_of-self g c
