-- `carry_down` carries a transmission to the terminals, and keeps the line's invariant.
use Rattle.std.proofs.Common.{◌≡◌, ◌<◌, ◌↔◌, IsTrue, ℕ, length, Some, ◌∙◌, refl, ap, subst, arith}
use Rattle.bsc_control.specs.Control.{terminals as addresses_of}
use Rattle.bsc_line_model.specs.declared.transmission.Transmission.{Transmission}
use Rattle.bsc_line_model.specs.Trust.{IsHeardFairly, IsTrustAfter, IsAddressedAfter}
use Rattle.bsc_line_model.specs.Line.{LineValue, line_of}
use Rattle.bsc_line_model.specs.Carries.{IsCarriedDown}
use Rattle.bsc_line.specs.Hearings.{hearing_of}
use Rattle.bsc_line.proofs.Carrying.{flag_is_trust_after, said_of_pending, at_least_one_terminal}
use Rattle.bsc_line.proofs.line.Line.carry_down.Given as given
use Rattle.bsc_line.proofs.line.Line.carry_down.Goals as goal

pub is_down_fair-fair-requires : goal.is_down_fair-fair-requires
is_down_fair-fair-requires g c =
    let some : 0 < length c.self.inside.terminals.items =
    at_least_one_terminal c.self.inside.control c.self.inside.terminals.items
    c.self.invariant.stations in
    omega arith

pub addressed_after-self-inside-requires : goal.addressed_after-self-inside-requires
addressed_after-self-inside-requires g c =
    let some : 0 < length c.self.inside.terminals.items =
    at_least_one_terminal c.self.inside.control c.self.inside.terminals.items
    c.self.invariant.stations in
    omega arith

-- the count is the number of terminals
count_is_number_of_terminals : (g : given.Over) (c : goal.After-self-2-1 g) → c.len-count.result
    ≡ length c.self.inside.terminals.items
count_is_number_of_terminals g c = omega arith

trust_after_hearing : (g : given.Over) (c : goal.After-self-2-1 g) (s : Transmission) → c.self.inside.sent ≡ Some s
    →
    IsTrustAfter c.self.inside.trusted
    (IsHeardFairly s.message (length c.self.inside.terminals.items)
    (hearing_of c.args.hearings.now)) c.both-self-inside.result
trust_after_hearing g c s e =
    subst (λ (n : ℕ). IsTrustAfter c.self.inside.trusted
    (IsHeardFairly s.message n (hearing_of c.args.hearings.now)) c.both-self-inside.result)
    (count_is_number_of_terminals g c)
    (flag_is_trust_after c.self.inside.trusted c.is_down_fair-fair.result c.both-self-inside.result
    (IsHeardFairly s.message c.len-count.result (hearing_of c.args.hearings.now))
    c.both-self-inside.ensures
    (said_of_pending (λ (z : Transmission). IsTrue c.is_down_fair-fair.result ↔ IsHeardFairly z.message
    c.len-count.result (hearing_of c.args.hearings.now)) c.transmission.result s
    c.is_down_fair-fair.ensures (c.transmission.ensures ∙ e)))

addressed_after_hearing : (g : given.Over) (c : goal.After-self-2-1 g) →
    IsAddressedAfter (addresses_of c.self.inside.control) (length c.self.inside.terminals.items)
    (hearing_of c.args.hearings.now) c.self.inside.addressed
    c.addressed_after-self-inside.result
addressed_after_hearing g c =
    subst (λ (n : ℕ). IsAddressedAfter (addresses_of c.self.inside.control) n
    (hearing_of c.args.hearings.now) c.self.inside.addressed
    c.addressed_after-self-inside.result) (count_is_number_of_terminals g c) c.addressed_after-self-inside.ensures

is_carried_down : (g : given.Over) (c : goal.After-self-2-1 g) (s : Transmission)
    → c.self.inside.sent ≡ Some s →
    IsCarriedDown s.message (hearing_of c.args.hearings.now)
    (line_of c.self.inside.control c.self.inside.terminals.items c.self.inside.sent
    c.self.inside.trusted c.self.inside.addressed)
    (line_of c.self.inside.control c.hear_down.new.terminals.items
    c.hear_down.new.self c.both-self-inside.result c.addressed_after-self-inside.result)
is_carried_down g c s e =
    record {
      control = refl;
      terminals = c.hear_down.ensures.each;
      kept = c.hear_down.ensures.keeps;
      pending = c.hear_down.ensures.first;
      addressed = addressed_after_hearing g c;
      trusted = trust_after_hearing g c s e;
    }

pub invariant_of-self : goal.invariant_of-self
invariant_of-self g c =
    let pending : c.self.inside.sent ≡ Some c.requires.sent =
    ap (λ (l : LineValue). l.pending) c.self.view_is ∙ c.requires.pending in
    c.each_event.ensures.down c.requires.sent (hearing_of c.args.hearings.now) _ _
    c.self.invariant pending c.requires.speaker
    (is_carried_down g c c.requires.sent pending)

pub returns-clause-does : goal.returns-clause-does
returns-clause-does g c = rw (← c.self.view_is) (is_carried_down g c)

pub returns-clause-line : goal.returns-clause-line
returns-clause-line g c = invariant_of-self g c
