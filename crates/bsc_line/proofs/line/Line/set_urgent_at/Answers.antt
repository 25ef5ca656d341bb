-- `set_urgent_at` does the event `UrgentAt`.
use Rattle.std.proofs.Common.{◌≡◌, ◌<◌, true, length, ap, arith, sym, ◌∙◌}
use Rattle.bsc_tributary.specs.Tributary.{TributaryValue}
use Rattle.bsc_line_model.specs.Line.{LineValue, line_of, terminal_at}
use Rattle.bsc_line_model.proofs.Carrying.{is_terminal}
use Rattle.bsc_line.proofs.line.Line.set_urgent_at.Goals as goal

pub invariant_of-self : goal.invariant_of-self
invariant_of-self g c =
    let there : c.args.terminal < length c.self.inside.terminals.items = omega arith in
    let old : LineValue =
    line_of c.self.inside.control c.self.inside.terminals.items c.self.inside.sent
    c.self.inside.trusted c.self.inside.addressed in
    let here : terminal_at old c.args.terminal ≡ c.index_mut-station.result.now =
    is_terminal c.self.inside.terminals.items c.args.terminal c.index_mut-station.result.now
    there c.index_mut-station.ensures.value in
    c.each_event.ensures.urgent_at old c.args.terminal c.set_urgent.new.self c.self.invariant
    there c.set_urgent.ensures.same.tributary
    (c.set_urgent.ensures.state ∙ ap (λ (y : TributaryValue). record y { urgent = true })
    (sym here))

pub returns-clause-line : goal.returns-clause-line
returns-clause-line g c = invariant_of-self g c
