-- `offer_at` does the event `OfferAt`.
use Rattle.std.proofs.Common.{◌≡◌, ◌<◌, ◌≤◌, ℕ, length, refl, ap, sym, ◌∙◌, subst, arith}
use Rattle.bsc_tributary.specs.Tributary.{TributaryValue}
use Rattle.bsc_bid.specs.Setup.{SetupValue}
use Rattle.bsc_line_model.specs.Line.{LineValue, line_of, terminal_at, with_terminal}
use Rattle.bsc_line_model.specs.Offers.{full_length, read_for}
use Rattle.bsc_line_model.proofs.Carrying.{is_terminal}
use Rattle.bsc_line.proofs.Offering.{offer_at_terminal, offer_line, read_short, terminal_full}
use Rattle.bsc_line_model.specs.declared.event.Event.TheVariants as event
use Rattle.bsc_line.proofs.line.Line.offer_at.Goals as goal

pub offer_here-requires : goal.offer_here-requires
offer_here-requires g c =
    let there : c.args.terminal < length c.self.inside.terminals.items = omega arith in
    let old : LineValue =
    line_of c.self.inside.control c.self.inside.terminals.items c.self.inside.sent
    c.self.inside.trusted c.self.inside.addressed in
    let here : terminal_at old c.args.terminal ≡ c.index_mut-station.result.now =
    is_terminal c.self.inside.terminals.items c.args.terminal c.index_mut-station.result.now
    there c.index_mut-station.ensures.value in
    let full : c.index_mut-station.result.now.queue.format.full ≡ c.setup.result.format.full =
    ap (λ (y : TributaryValue). y.queue.format.full) (sym here)
    ∙ terminal_full old c.args.terminal c.self.invariant there
    ∙ ap (λ (s : SetupValue). s.format.full) (sym c.setup.ensures.value) in
    subst (λ (n : ℕ). length c.in_ok-record.record ≤ n) (sym full)
    (read_short c.setup.result.format.full c.args.codes.now c.in_ok-record.record
    (sym c.read_record.ensures ∙ c.in_ok-record.was))

pub invariant_of-self : goal.invariant_of-self
invariant_of-self g c =
    let there : c.args.terminal < length c.self.inside.terminals.items = omega arith in
    let old : LineValue =
    line_of c.self.inside.control c.self.inside.terminals.items c.self.inside.sent
    c.self.inside.trusted c.self.inside.addressed in
    let here : terminal_at old c.args.terminal ≡ c.index_mut-station.result.now =
    is_terminal c.self.inside.terminals.items c.args.terminal c.index_mut-station.result.now
    there c.index_mut-station.ensures.value in
    let short : length c.in_ok-record.record ≤ full_length old =
    subst (λ (s : SetupValue). length c.in_ok-record.record ≤ s.format.full) c.setup.ensures.value
    (read_short c.setup.result.format.full c.args.codes.now c.in_ok-record.record
    (sym c.read_record.ensures ∙ c.in_ok-record.was)) in
    offer_line c.each_event.ensures.offer_at old c.args.terminal c.in_ok-record.record
    c.index_mut-station.result.now c.offer_here.new.terminal c.offer_here.result
    c.self.invariant there here short c.offer_here.ensures.same c.offer_here.ensures.ok
    c.offer_here.ensures.err

pub returns-clause-does : goal.returns-clause-does
returns-clause-does g c =
    let there : c.args.terminal < length c.self.inside.terminals.items = omega arith in
    let old : LineValue =
    line_of c.self.inside.control c.self.inside.terminals.items c.self.inside.sent
    c.self.inside.trusted c.self.inside.addressed in
    rw (← c.self.view_is)
    (offer_at_terminal old (with_terminal old c.args.terminal c.offer_here.new.terminal) c.args.terminal
    c.args.codes.now c.in_ok-record.record c.index_mut-station.result.now
    c.offer_here.new.terminal c.offer_here.result there
    (ap (λ (s : SetupValue). read_for s.format.full c.args.codes.now) (sym c.setup.ensures.value)
    ∙ sym c.read_record.ensures ∙ c.in_ok-record.was)
    (is_terminal c.self.inside.terminals.items c.args.terminal c.index_mut-station.result.now there
    c.index_mut-station.ensures.value) refl c.offer_here.ensures.ok c.offer_here.ensures.err
    c.offer_here.ensures.memory)

pub returns-clause-line : goal.returns-clause-line
returns-clause-line g c = invariant_of-self g c

pub returns-clause-steps : goal.returns-clause-steps
returns-clause-steps g c =
    c.each_steps.ensures (event.OfferAt c.args.terminal c.args.codes) _ c.offer_here.result
    (returns-clause-does g c)
