-- `carry_up_whole` carries an unspoiled transmission to the control station.
use Rattle.std.proofs.Common.{◌≡◌, Option, Some, refl, ◌∙◌, ap}
use Rattle.bsc_frame.specs.declared.message.Message.{Message}
use Rattle.bsc_control.specs.Kept.{IsHearing}
use Rattle.bsc_bid.specs.declared.speaker.Speaker.TheVariants.{Control}
use Rattle.bsc_line_model.specs.Transmission.{sent_by}
use Rattle.bsc_frame.specs.declared.message.Heard.TheVariants.{Whole}
use Rattle.bsc_line_model.specs.declared.transmission.Transmission.{Transmission}
use Rattle.bsc_line_model.specs.Line.{LineValue, line_of}
use Rattle.bsc_line_model.specs.Carries.{IsCarriedUp}
use Rattle.bsc_line.proofs.Carrying.{said_of_pending, carried_up_whole}
use Rattle.bsc_line.proofs.line.Line.carry_up_whole.Given as given
use Rattle.bsc_line.proofs.line.Line.carry_up_whole.Goals as goal

is_carried_up_whole : (g : given.Over) (c : goal.After-answer_whole g) (s : Transmission)
    → c.self.inside.sent ≡ Some s →
    IsCarriedUp s.message (Whole s.message)
    (line_of c.self.inside.control c.self.inside.terminals.items c.self.inside.sent
    c.self.inside.trusted c.self.inside.addressed)
    (line_of c.answer_whole.new.station c.self.inside.terminals.items c.answer_whole.new.self
    c.self.inside.trusted c.self.inside.addressed)
is_carried_up_whole g c s e =
    let told : (sent : Option Message)
    × (IsHearing c.self.inside.control (Whole s.message) c.answer_whole.new.station sent
    × (c.answer_whole.new.self ≡ sent_by Control sent)) =
    said_of_pending (λ (z : Transmission). (sent : Option Message)
    × (IsHearing c.self.inside.control (Whole z.message) c.answer_whole.new.station sent
    × (c.answer_whole.new.self ≡ sent_by Control sent))) c.self.inside.sent s
    c.answer_whole.ensures e in
    carried_up_whole s.message (Whole s.message) _ _ told.0 refl told.1.0.row told.1.0.after refl
    told.1.1 refl refl

pub invariant_of-self : goal.invariant_of-self
invariant_of-self g c =
    let pending : c.self.inside.sent ≡ Some c.requires.sent =
    ap (λ (l : LineValue). l.pending) c.self.view_is ∙ c.requires.pending in
    c.each_event.ensures.up c.requires.sent (Whole c.requires.sent.message) _ _ c.self.invariant
    pending c.requires.speaker (is_carried_up_whole g c c.requires.sent pending)

pub returns-clause-does : goal.returns-clause-does
returns-clause-does g c = rw (← c.self.view_is) (is_carried_up_whole g c)

pub returns-clause-line : goal.returns-clause-line
returns-clause-line g c = invariant_of-self g c
