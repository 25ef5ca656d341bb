-- `release_from` releases a terminal's doubt, and keeps the line's invariant.
use Rattle.std.proofs.Common.{◌≡◌, ◌<◌, ℕ, List, length, sym, ◌∙◌, ap, subst}
use Rattle.bsc_spool.specs.Spool.{SpoolValue}
use Rattle.bsc_tributary.specs.Tributary.{TributaryValue, after_release}
use Rattle.bsc_tributary.specs.Kept.{KeepsSetupAndMode}
use Rattle.bsc_line_model.specs.Line.{LineValue, line_of, terminal_at, terminal_count}
use Rattle.bsc_line_model.specs.Offers.{count_from}
use Rattle.bsc_line_model.proofs.Carrying.{is_terminal}
use Rattle.bsc_line.proofs.line.Line.release_from.Goals as goal

pub invariant_of-self : goal.invariant_of-self
invariant_of-self g c =
    let there : c.args.terminal < length c.self.inside.terminals.items =
    subst (λ (l : LineValue). c.args.terminal < terminal_count l) (sym c.self.view_is)
    c.requires in
    let old : LineValue =
    line_of c.self.inside.control c.self.inside.terminals.items c.self.inside.sent
    c.self.inside.trusted c.self.inside.addressed in
    let here : terminal_at old c.args.terminal ≡ c.index_mut-station.result.now =
    is_terminal c.self.inside.terminals.items c.args.terminal c.index_mut-station.result.now
    there c.index_mut-station.ensures.value in
    let becomes : c.release.new.self ≡ after_release (terminal_at old c.args.terminal)
    (count_from old c.args.terminal) =
    c.release.ensures.state
    ∙ ap (λ (n : ℕ). after_release c.index_mut-station.result.now n) c.len-count.ensures
    ∙ ap (λ (xs : List (List ℕ)). after_release c.index_mut-station.result.now (length xs))
    (c.records.ensures ∙ ap (λ (z : SpoolValue). z.records) c.spool.ensures.value)
    ∙ ap (λ (y : TributaryValue). after_release y (count_from old c.args.terminal)) (sym here) in
    c.each_event.ensures.release_from old c.args.terminal c.release.new.self c.self.invariant
    there (subst (λ (y : TributaryValue). KeepsSetupAndMode y c.release.new.self) (sym here)
    c.release.ensures.same) becomes

pub returns-clause-line : goal.returns-clause-line
returns-clause-line g c = invariant_of-self g c
