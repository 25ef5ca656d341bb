-- `carry_down_whole` carries an unspoiled transmission to the terminals.
use Rattle.std.proofs.Common.{◌≡◌, ◌<◌, ℕ, length, Some, ◌∙◌, refl, ap, subst, arith}
use Rattle.bsc_frame.specs.declared.message.Heard.{Heard}
use Rattle.bsc_frame.specs.declared.message.Heard.TheVariants.{Whole}
use Rattle.bsc_control.specs.Control.{terminals as addresses_of}
use Rattle.bsc_line_model.specs.declared.transmission.Transmission.{Transmission}
use Rattle.bsc_line_model.specs.Terminals.{EachHears, EachKeeps, first_answer}
use Rattle.bsc_line_model.specs.Trust.{IsAddressedAfter}
use Rattle.bsc_line_model.specs.Line.{LineValue, line_of}
use Rattle.bsc_line_model.specs.Carries.{IsCarriedDown}
use Rattle.bsc_line.proofs.Carrying.{said_of_pending, at_least_one_terminal, all_hear_what_was_sent}
use Rattle.bsc_line.proofs.line.Line.carry_down_whole.Given as given
use Rattle.bsc_line.proofs.line.Line.carry_down_whole.Goals as goal

pub addressed_after-self-inside-requires : goal.addressed_after-self-inside-requires
addressed_after-self-inside-requires g c =
    let some : 0 < length c.self.inside.terminals.items =
    at_least_one_terminal c.self.inside.control c.self.inside.terminals.items
    c.self.invariant.stations in
    omega arith

is_carried_down_whole : (g : given.Over) (c : goal.After-hear_down_whole g) (s : Transmission)
    → c.self.inside.sent ≡ Some s →
    IsCarriedDown s.message (λ t. Whole s.message)
    (line_of c.self.inside.control c.self.inside.terminals.items c.self.inside.sent
    c.self.inside.trusted c.self.inside.addressed)
    (line_of c.self.inside.control c.hear_down_whole.new.terminals.items
    c.hear_down_whole.new.self c.self.inside.trusted c.addressed_after-self-inside.result)
is_carried_down_whole g c s e =
    let heard : c.whole-heard.result ≡ Whole s.message =
    said_of_pending (λ (z : Transmission). c.whole-heard.result ≡ Whole z.message)
    c.transmission.result s c.whole-heard.ensures (c.transmission.ensures ∙ e) in
    let counted : c.len-count.result ≡ length c.self.inside.terminals.items = omega arith in
    all_hear_what_was_sent s.message (Whole s.message) _ _ refl refl
    (said_of_pending (λ (z : Transmission). EachHears c.self.inside.terminals.items
    (λ t. Whole z.message) c.hear_down_whole.new.terminals.items) c.self.inside.sent s
    c.hear_down_whole.ensures.each e)
    (said_of_pending (λ (z : Transmission). EachKeeps c.self.inside.terminals.items
    (λ t. Whole z.message) c.hear_down_whole.new.terminals.items) c.self.inside.sent s
    c.hear_down_whole.ensures.keeps e)
    (said_of_pending (λ (z : Transmission). c.hear_down_whole.new.self
    ≡ first_answer c.self.inside.terminals.items (λ t. Whole z.message)
    c.hear_down_whole.new.terminals.items (length c.self.inside.terminals.items))
    c.self.inside.sent s c.hear_down_whole.ensures.first e)
    (subst (λ (x : Heard). IsAddressedAfter (addresses_of c.self.inside.control)
    (length c.self.inside.terminals.items) (λ t. x) c.self.inside.addressed
    c.addressed_after-self-inside.result) heard
    (subst (λ (n : ℕ). IsAddressedAfter (addresses_of c.self.inside.control) n
    (λ t. c.whole-heard.result) c.self.inside.addressed
    c.addressed_after-self-inside.result) counted c.addressed_after-self-inside.ensures))
    refl

pub invariant_of-self : goal.invariant_of-self
invariant_of-self g c =
    let pending : c.self.inside.sent ≡ Some c.requires.sent =
    ap (λ (l : LineValue). l.pending) c.self.view_is ∙ c.requires.pending in
    c.each_event.ensures.down c.requires.sent (λ t. Whole c.requires.sent.message) _ _
    c.self.invariant pending c.requires.speaker
    (is_carried_down_whole g c c.requires.sent pending)

pub returns-clause-does : goal.returns-clause-does
returns-clause-does g c = rw (← c.self.view_is) (is_carried_down_whole g c)

pub returns-clause-line : goal.returns-clause-line
returns-clause-line g c = invariant_of-self g c
