-- `carry_up` carries a transmission to the control station, and keeps the line's invariant.
use Rattle.std.proofs.Common.{◌≡◌, ◌↔◌, IsTrue, Some, refl, ◌∙◌, ap}
use Rattle.bsc_bid.specs.Fair.{IsFairlyHeard}
use Rattle.bsc_line_model.specs.declared.transmission.Transmission.{Transmission}
use Rattle.bsc_line_model.specs.Line.{LineValue, line_of}
use Rattle.bsc_line_model.specs.Carries.{IsCarriedUp}
use Rattle.bsc_line.proofs.Carrying.{flag_is_trust_after, said_of_pending}
use Rattle.bsc_line.proofs.line.Line.carry_up.Given as given
use Rattle.bsc_line.proofs.line.Line.carry_up.Goals as goal

is_carried_up : (g : given.Over) (c : goal.After-self-1 g) (s : Transmission)
    → c.self.inside.sent ≡ Some s →
    IsCarriedUp s.message c.args.heard.now
    (line_of c.self.inside.control c.self.inside.terminals.items c.self.inside.sent
    c.self.inside.trusted c.self.inside.addressed)
    (line_of c.answer.new.station c.self.inside.terminals.items c.answer.new.self
    c.both-self-inside.result c.self.inside.addressed)
is_carried_up g c s e =
    record {
      sent = c.answer.ensures.0;
      control = c.answer.ensures.1.0.row;
      kept = c.answer.ensures.1.0.after;
      terminals = refl;
      pending = c.answer.ensures.1.1;
      addressed = refl;
      trusted =
          flag_is_trust_after c.self.inside.trusted c.is_up_fair-fair.result c.both-self-inside.result
          (IsFairlyHeard s.message c.args.heard.now) c.both-self-inside.ensures
          (said_of_pending (λ (z : Transmission). IsTrue c.is_up_fair-fair.result ↔ IsFairlyHeard z.message
          c.args.heard.now) c.transmission.result s c.is_up_fair-fair.ensures
          (c.transmission.ensures ∙ e));
    }

pub invariant_of-self : goal.invariant_of-self
invariant_of-self g c =
    let pending : c.self.inside.sent ≡ Some c.requires.sent =
    ap (λ (l : LineValue). l.pending) c.self.view_is ∙ c.requires.pending in
    c.each_event.ensures.up c.requires.sent c.args.heard.now _ _ c.self.invariant pending
    c.requires.speaker (is_carried_up g c c.requires.sent pending)

pub returns-clause-does : goal.returns-clause-does
returns-clause-does g c = rw (← c.self.view_is) (is_carried_up g c)

pub returns-clause-line : goal.returns-clause-line
returns-clause-line g c = invariant_of-self g c
