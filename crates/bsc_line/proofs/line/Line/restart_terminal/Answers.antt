-- `restart_terminal` lets a terminal begin again, and keeps the line's invariant.
use Rattle.std.proofs.Common.{◌≡◌, ◌<◌, length, sym, ◌∙◌, ap, subst}
use Rattle.bsc_tributary.specs.Tributary.{restarted as restarted_tributary}
use Rattle.bsc_tributary.specs.Kept.{IsTributary}
use Rattle.bsc_bid.specs.declared.speaker.Speaker.TheVariants.{Terminal}
use Rattle.bsc_line_model.specs.Kept.{IsLine}
use Rattle.bsc_line_model.specs.Line.{LineValue, line_of, terminal_at, terminal_count}
use Rattle.bsc_line_model.specs.Restarts.{restarted}
use Rattle.bsc_line_model.proofs.Carrying.{is_terminal}
use Rattle.bsc_line.proofs.line.Line.restart_terminal.Goals as goal

pub invariant_of-self : goal.invariant_of-self
invariant_of-self g c =
    let there : c.args.terminal < length c.self.inside.terminals.items =
    subst (λ (l : LineValue). c.args.terminal < terminal_count l) (sym c.self.view_is)
    c.requires in
    let old : LineValue =
    line_of c.self.inside.control c.self.inside.terminals.items c.self.inside.sent
    c.self.inside.trusted c.self.inside.addressed in
    let becomes : c.restart.new.self ≡ restarted_tributary (terminal_at old c.args.terminal) =
    c.restart.ensures.state
    ∙ ap restarted_tributary (sym (is_terminal c.self.inside.terminals.items c.args.terminal
    c.index_mut-station.result.now there c.index_mut-station.ensures.value)) in
    let line : IsLine (restarted old (Terminal c.args.terminal)) =
    c.each_event.ensures.restart old (Terminal c.args.terminal) c.self.invariant there
    (subst IsTributary becomes c.restart.ensures.tributary) in
    rw (becomes, c.lose.ensures) line

pub returns-clause-line : goal.returns-clause-line
returns-clause-line g c = invariant_of-self g c
