-- `carry_sent` does the event `CarrySent`.
use Rattle.std.proofs.Common.{Some, sym, ◌∙◌, ap}
use Rattle.bsc_bid.specs.declared.speaker.Speaker.{Speaker}
use Rattle.bsc_line_model.specs.declared.transmission.Transmission.{Transmission}
use Rattle.bsc_line_model.specs.Transmission.{speaker_of}
use Rattle.bsc_line_model.specs.Line.{LineValue}
use Rattle.bsc_frame.specs.declared.message.Heard.TheVariants.{Whole}
use Rattle.bsc_line.proofs.Carrying.{from_terminal, from_control, terminals_hear_pending}
use Rattle.bsc_line.proofs.Carrying.{control_hears_pending}
use Rattle.bsc_line_model.specs.declared.event.Event.TheVariants as event
use Rattle.std.proofs.Common.{Ok}
use Rattle.bsc_line.proofs.line.Line.carry_sent.Goals as goal

pub carry_down_whole-requires : goal.carry_down_whole-requires
carry_down_whole-requires g c =
    from_control c.args.self.now
    (ap (λ (l : LineValue). speaker_of l.pending) (sym c.self.view_is) ∙ sym c.speaker.ensures
    ∙ c.in-Some-Control.is ∙ ap (λ (p : Speaker). Some p) c.in-Some-Control.field-0-is)

pub carry_up_whole-requires : goal.carry_up_whole-requires
carry_up_whole-requires g c =
    from_terminal c.args.self.now _
    (ap (λ (l : LineValue). speaker_of l.pending) (sym c.self.view_is) ∙ sym c.speaker.ensures
    ∙ c.in-Some-Terminal.is ∙ ap (λ (p : Speaker). Some p) c.in-Some-Terminal.field-0-is)

pub returns-in-Some-Control-clause-does : goal.returns-in-Some-Control-clause-does
returns-in-Some-Control-clause-does g c =
    terminals_hear_pending (λ (s : Transmission). Whole s.message) c.args.self.now c.carry_down_whole.new.self
    (ap (λ (l : LineValue). speaker_of l.pending) (sym c.self.view_is) ∙ sym c.speaker.ensures
    ∙ c.in-Some-Control.is ∙ ap (λ (p : Speaker). Some p) c.in-Some-Control.field-0-is)
    c.carry_down_whole.ensures.does

pub returns-in-Some-Terminal-clause-does : goal.returns-in-Some-Terminal-clause-does
returns-in-Some-Terminal-clause-does g c =
    control_hears_pending (λ (s : Transmission). Whole s.message) c.args.self.now c.carry_up_whole.new.self _
    (ap (λ (l : LineValue). speaker_of l.pending) (sym c.self.view_is) ∙ sym c.speaker.ensures
    ∙ c.in-Some-Terminal.is ∙ ap (λ (p : Speaker). Some p) c.in-Some-Terminal.field-0-is)
    c.carry_up_whole.ensures.does

pub returns-in-Some-Control-clause-steps : goal.returns-in-Some-Control-clause-steps
returns-in-Some-Control-clause-steps g c =
    c.each_steps.ensures event.CarrySent c.carry_down_whole.new.self (Ok tt)
    (returns-in-Some-Control-clause-does g c)

pub returns-in-Some-Terminal-clause-steps : goal.returns-in-Some-Terminal-clause-steps
returns-in-Some-Terminal-clause-steps g c =
    c.each_steps.ensures event.CarrySent c.carry_up_whole.new.self (Ok tt)
    (returns-in-Some-Terminal-clause-does g c)
