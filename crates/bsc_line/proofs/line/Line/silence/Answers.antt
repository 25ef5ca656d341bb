-- `silence` does the event `Silence`.
use Rattle.std.proofs.Common.{Option, is_some, ℕ, ◌<◌, List, length, sym, ◌∙◌, ap, subst}
use Rattle.bsc_tributary.specs.Tributary.{TributaryValue}
use Rattle.bsc_line_model.specs.Line.{LineValue}
use Rattle.bsc_line_model.specs.Terminals.{line_owner}
use Rattle.bsc_line_model.specs.Carries.{OwnerActs}
use Rattle.bsc_line.proofs.Carrying.{none_if_not_some, passes_silence}
use Rattle.bsc_line_model.specs.declared.event.Event.TheVariants as event
use Rattle.std.proofs.Common.{Ok}
use Rattle.bsc_line.proofs.line.Line.silence.Goals as goal

pub act_at-requires-clause-there : goal.act_at-requires-clause-there
act_at-requires-clause-there g c =
    subst (λ (xs : List TributaryValue). c.in-Some.terminal < length xs)
    (c.as_slice.ensures.value ∙ ap (λ (l : LineValue). l.terminals) c.self.view_is)
    c.in-Some.ensures.within

pub act_at-requires-clause-nothing : goal.act_at-requires-clause-nothing
act_at-requires-clause-nothing g c =
    none_if_not_some c.args.self.now.pending (ap (λ (l : LineValue). is_some l.pending) (sym c.self.view_is)
    ∙ sym c.is_some.ensures ∙ c.if-is_some.false)

pub act_at-requires-clause-owner : goal.act_at-requires-clause-owner
act_at-requires-clause-owner g c =
    sym (c.line_owner.ensures.value ∙ ap line_owner
    (c.as_slice.ensures.value ∙ ap (λ (l : LineValue). l.terminals) c.self.view_is))
    ∙ c.in-Some.is

pub act_at_control-requires-clause-nothing : goal.act_at_control-requires-clause-nothing
act_at_control-requires-clause-nothing g c =
    none_if_not_some c.args.self.now.pending (ap (λ (l : LineValue). is_some l.pending) (sym c.self.view_is)
    ∙ sym c.is_some.ensures ∙ c.if-is_some.false)

pub act_at_control-requires-clause-nobody : goal.act_at_control-requires-clause-nobody
act_at_control-requires-clause-nobody g c =
    sym (c.line_owner.ensures.value ∙ ap line_owner
    (c.as_slice.ensures.value ∙ ap (λ (l : LineValue). l.terminals) c.self.view_is))
    ∙ c.in-None.is

pub returns-in-Some-clause-does : goal.returns-in-Some-clause-does
returns-in-Some-clause-does g c =
    passes_silence c.args.self.now c.act_at.new.self c.line_owner.result
    (ap (λ (l : LineValue). is_some l.pending) (sym c.self.view_is) ∙ sym c.is_some.ensures
    ∙ c.if-is_some.false)
    (c.line_owner.ensures.value ∙ ap line_owner
    (c.as_slice.ensures.value ∙ ap (λ (l : LineValue). l.terminals) c.self.view_is))
    (subst (λ (o : Option ℕ). OwnerActs o c.args.self.now c.act_at.new.self) (sym c.in-Some.is)
    c.act_at.ensures.does)

pub returns-in-None-clause-does : goal.returns-in-None-clause-does
returns-in-None-clause-does g c =
    passes_silence c.args.self.now c.act_at_control.new.self c.line_owner.result
    (ap (λ (l : LineValue). is_some l.pending) (sym c.self.view_is) ∙ sym c.is_some.ensures
    ∙ c.if-is_some.false)
    (c.line_owner.ensures.value ∙ ap line_owner
    (c.as_slice.ensures.value ∙ ap (λ (l : LineValue). l.terminals) c.self.view_is))
    (subst (λ (o : Option ℕ). OwnerActs o c.args.self.now c.act_at_control.new.self)
    (sym c.in-None.is) c.act_at_control.ensures.does)

pub returns-in-Some-clause-steps : goal.returns-in-Some-clause-steps
returns-in-Some-clause-steps g c =
    c.each_steps.ensures event.Silence c.act_at.new.self (Ok tt) (returns-in-Some-clause-does g c)

pub returns-in-None-clause-steps : goal.returns-in-None-clause-steps
returns-in-None-clause-steps g c =
    c.each_steps.ensures event.Silence c.act_at_control.new.self (Ok tt)
    (returns-in-None-clause-does g c)
