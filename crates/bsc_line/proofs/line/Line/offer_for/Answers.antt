-- `offer_for` does the event `OfferFor`.
use Rattle.std.proofs.Common.{◌≡◌, ◌<◌, ◌≤◌, ℕ, length, sym, ◌∙◌, subst, arith, rules}
use Rattle.std.proofs.lemmas.Grind.{common_steps}
use Rattle.bsc_bid.specs.Setup.{SetupValue}
use Rattle.bsc_control.specs.Control.{peer_at}
use Rattle.bsc_line_model.specs.Kept.{IsLine}
use Rattle.bsc_line_model.specs.Line.{LineValue, line_of, with_control}
use Rattle.bsc_line_model.specs.Offers.{full_length, select_count}
use Rattle.bsc_line.proofs.Offering.{offer_for_line, read_short, select_back}
use Rattle.bsc_line_model.specs.declared.event.Event.TheVariants as event
use Rattle.bsc_line.proofs.line.Line.offer_for.Goals as goal

pub invariant_of-self : goal.invariant_of-self
invariant_of-self g c =
    let peer : c.args.terminal < length c.self.inside.control.peers = omega arith in
    let old : LineValue =
    line_of c.self.inside.control c.self.inside.terminals.items c.self.inside.sent
    c.self.inside.trusted c.self.inside.addressed in
    let there : c.args.terminal < length c.self.inside.terminals.items =
    subst (λ (n : ℕ). c.args.terminal < n) c.self.invariant.stations.count peer in
    let outbound : c.args.select < length
    (peer_at c.self.inside.control c.args.terminal).outbounds =
    subst (λ (n : ℕ). c.args.select < n) c.addresses.ensures.value
    c.if-select-addresses.false in
    let select : c.args.select < select_count old c.args.terminal =
    select_back old c.args.terminal c.args.select c.self.invariant there outbound in
    let short : length c.in_ok-record.record ≤ full_length old =
    subst (λ (s : SetupValue). length c.in_ok-record.record ≤ s.format.full) c.setup.ensures.value
    (read_short c.setup.result.format.full c.args.codes.now c.in_ok-record.record
    (sym c.read_record.ensures ∙ c.in_ok-record.was)) in
    let kept : IsLine (with_control old c.offer.new.self)
    × (c.offer.new.self.setup ≡ c.self.inside.control.setup) =
    offer_for_line c.each_event.ensures.offer_for old c.args.terminal c.args.select
    c.in_ok-record.record c.offer.new.self c.offer.result c.self.invariant there select short
    c.offer.ensures.control c.offer.ensures.ok c.offer.ensures.err in
    kept.0

pub returns-clause-line : goal.returns-clause-line
returns-clause-line g c = invariant_of-self g c

pub returns-clause-steps : goal.returns-clause-steps
returns-clause-steps g c =
    c.each_steps.ensures (event.OfferFor c.args.terminal c.args.select c.args.codes) _
    c.match-offer.result (first_of (search rules, grind (arith, common_steps)))
