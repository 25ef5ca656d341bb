-- `act_at_control` lets only the control station act, and keeps the line's invariant.
use Rattle.std.proofs.Common.{◌≡◌, ℕ, Option, None, sym, subst, ◌∙◌, ap}
use Rattle.bsc_line_model.specs.declared.transmission.Transmission.{Transmission}
use Rattle.bsc_line_model.specs.Line.{LineValue, line_of}
use Rattle.bsc_line_model.specs.Terminals.{line_owner}
use Rattle.bsc_line_model.specs.Carries.{ControlActsAlone, OwnerActs}
use Rattle.bsc_line.proofs.line.Line.act_at_control.Given as given
use Rattle.bsc_line.proofs.line.Line.act_at_control.Goals as goal

control_acted : (g : given.Over) (c : goal.After-act g) →
    ControlActsAlone (line_of c.self.inside.control c.self.inside.terminals.items c.self.inside.sent
    c.self.inside.trusted c.self.inside.addressed)
    (line_of c.act.new.station c.self.inside.terminals.items c.act.new.self
    c.self.inside.trusted c.self.inside.addressed)
control_acted g c =
    record {
      sent = c.act.ensures.0;
      row = c.act.ensures.1.0.row;
      kept = c.act.ensures.1.0.after;
      becomes =
          ap (λ (o : Option Transmission). line_of c.act.new.station c.self.inside.terminals.items o
          c.self.inside.trusted c.self.inside.addressed) c.act.ensures.1.1;
    }

pub invariant_of-self : goal.invariant_of-self
invariant_of-self g c =
    let nobody : None ≡ line_owner c.self.inside.terminals.items =
    sym (ap (λ (l : LineValue). line_owner l.terminals) c.self.view_is ∙ c.requires.nobody) in
    c.each_event.ensures.silence (line_of c.self.inside.control c.self.inside.terminals.items
    c.self.inside.sent c.self.inside.trusted c.self.inside.addressed)
    (line_of c.act.new.station c.self.inside.terminals.items c.act.new.self
    c.self.inside.trusted c.self.inside.addressed) c.self.invariant
    (record {
      nothing = ap (λ (l : LineValue). l.pending) c.self.view_is ∙ c.requires.nothing;
      acts = subst
          (λ (o : Option ℕ). OwnerActs o
          (line_of c.self.inside.control c.self.inside.terminals.items c.self.inside.sent
          c.self.inside.trusted c.self.inside.addressed)
          (line_of c.act.new.station c.self.inside.terminals.items c.act.new.self
          c.self.inside.trusted c.self.inside.addressed))
          nobody (control_acted g c);
    })

pub returns-clause-does : goal.returns-clause-does
returns-clause-does g c = rw (← c.self.view_is) (control_acted g c)

pub returns-clause-line : goal.returns-clause-line
returns-clause-line g c = invariant_of-self g c
