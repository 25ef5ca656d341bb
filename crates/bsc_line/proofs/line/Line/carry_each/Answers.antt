-- `carry_each` does the event `CarryEach`.
use Rattle.std.proofs.Common.{◌≡◌, Some, length, refl, ap, sym, ◌∙◌, arith}
use Rattle.bsc_bid.specs.declared.speaker.Speaker.{Speaker}
use Rattle.bsc_line_model.specs.Transmission.{speaker_of}
use Rattle.bsc_line_model.specs.Line.{LineValue, terminal_count}
use Rattle.bsc_line.proofs.Carrying.{from_terminal, from_control, each_hears_own_item}
use Rattle.bsc_line_model.specs.declared.event.Event.TheVariants as event
use Rattle.std.proofs.Common.{Ok}
use Rattle.bsc_line.proofs.line.Line.carry_each.Goals as goal

pub carry_down-requires : goal.carry_down-requires
carry_down-requires g c =
    from_control c.args.self.now
    (ap (λ (l : LineValue). speaker_of l.pending) (sym c.self.view_is) ∙ sym c.speaker.ensures
    ∙ c.in-Some-Control.is ∙ ap (λ (p : Speaker). Some p) c.in-Some-Control.field-0-is)

pub returns-in-Some-Terminal-clause-does : goal.returns-in-Some-Terminal-clause-does
returns-in-Some-Terminal-clause-does g c = (
  from_terminal c.args.self.now _
      (ap (λ (l : LineValue). speaker_of l.pending) (sym c.self.view_is) ∙ sym c.speaker.ensures
      ∙ c.in-Some-Terminal.is ∙ ap (λ (p : Speaker). Some p) c.in-Some-Terminal.field-0-is),
  refl,
)

pub returns-clause-does : goal.returns-clause-does
returns-clause-does g c =
    let counted : c.len.result ≡ length c.self.inside.terminals.items = omega arith in
    each_hears_own_item c.args.self.now c.carry_down.new.self c.args.items.now
    (ap (λ (l : LineValue). speaker_of l.pending) (sym c.self.view_is) ∙ sym c.speaker.ensures
    ∙ c.in-Some-Control.is ∙ ap (λ (p : Speaker). Some p) c.in-Some-Control.field-0-is)
    (c.if-items-len.false ∙ counted ∙ ap (λ (l : LineValue). terminal_count l) c.self.view_is)
    c.carry_down.ensures.does

pub returns-clause-steps : goal.returns-clause-steps
returns-clause-steps g c =
    c.each_steps.ensures (event.CarryEach c.args.items) c.carry_down.new.self (Ok tt)
    (returns-clause-does g c)
