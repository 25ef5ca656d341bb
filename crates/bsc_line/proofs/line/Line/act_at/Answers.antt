-- `act_at` lets only this terminal act, and keeps the line's invariant.
use Rattle.std.proofs.Common.{◌<◌, ◌≡◌, ℕ, Option, Some, length, slice_set, sym, subst, ◌∙◌, ap}
use Rattle.bsc_line_model.specs.Line.{LineValue, line_of, terminal_count}
use Rattle.bsc_line_model.specs.Terminals.{line_owner}
use Rattle.bsc_line_model.specs.Carries.{TerminalActsAlone, OwnerActs}
use Rattle.bsc_line.proofs.Carrying.{owner_terminal_acted}
use Rattle.bsc_line.proofs.line.Line.act_at.Given as given
use Rattle.bsc_line.proofs.line.Line.act_at.Goals as goal

terminal_within_terminals : (g : given.Over) (c : goal.After-self-1 g) → c.args.terminal
    < length c.self.inside.terminals.items
terminal_within_terminals g c =
    subst (λ (l : LineValue). c.args.terminal < terminal_count l) (sym c.self.view_is)
    c.requires.there

terminal_acted : (g : given.Over) (c : goal.After-self-1 g) →
    TerminalActsAlone c.args.terminal (line_of c.self.inside.control c.self.inside.terminals.items
    c.self.inside.sent c.self.inside.trusted c.self.inside.addressed)
    (line_of c.self.inside.control (slice_set c.self.inside.terminals.items c.args.terminal
    c.act.new.station) c.act.new.self c.self.inside.trusted c.self.inside.addressed)
terminal_acted g c =
    owner_terminal_acted (line_of c.self.inside.control c.self.inside.terminals.items c.self.inside.sent
    c.self.inside.trusted c.self.inside.addressed) c.args.terminal
    c.index_mut-station.result.now c.act.new.station c.act.ensures.0 c.act.new.self
    (terminal_within_terminals g c) c.index_mut-station.ensures.value c.act.ensures.1.0.row
    c.act.ensures.1.0.after c.act.ensures.1.1

pub invariant_of-self : goal.invariant_of-self
invariant_of-self g c =
    let owner : Some c.args.terminal ≡ line_owner c.self.inside.terminals.items =
    sym (ap (λ (l : LineValue). line_owner l.terminals) c.self.view_is ∙ c.requires.owner) in
    c.each_event.ensures.silence (line_of c.self.inside.control c.self.inside.terminals.items
    c.self.inside.sent c.self.inside.trusted c.self.inside.addressed)
    (line_of c.self.inside.control (slice_set c.self.inside.terminals.items c.args.terminal
    c.act.new.station) c.act.new.self c.self.inside.trusted c.self.inside.addressed)
    c.self.invariant
    (record {
      nothing = ap (λ (l : LineValue). l.pending) c.self.view_is ∙ c.requires.nothing;
      acts = subst
          (λ (o : Option ℕ). OwnerActs o
          (line_of c.self.inside.control c.self.inside.terminals.items c.self.inside.sent
          c.self.inside.trusted c.self.inside.addressed)
          (line_of c.self.inside.control
          (slice_set c.self.inside.terminals.items c.args.terminal c.act.new.station)
          c.act.new.self c.self.inside.trusted c.self.inside.addressed))
          owner (terminal_acted g c);
    })

pub returns-clause-does : goal.returns-clause-does
returns-clause-does g c = rw (← c.self.view_is) (terminal_acted g c)

pub returns-clause-line : goal.returns-clause-line
returns-clause-line g c = invariant_of-self g c
