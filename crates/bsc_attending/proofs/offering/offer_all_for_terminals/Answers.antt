-- Shows that one more text is offered in turn, or is refused after those before it.
use Rattle.std.proofs.Common.{rules, ◌≡◌, get_or, string_bytes, subst, sym, map, IfErr, Err}
use Rattle.bsc_attending.specs.Offering.{IsOfferRefused, OffersLines, OffersNoLines}
use Rattle.bsc_attending.proofs.InTurn.{fails_in_turn, in_turn_more}
use Rattle.bsc_attending.proofs.offering.offer_all_for_terminals.Goals as goal

pub offers-preserved : goal.offers-preserved
offers-preserved g c =
    let texts = c.args.offers.now in
    let item = c.text-item.result in
    let text_is : c.as_str.result.now ≡ string_bytes (get_or texts c.offers.text-index item) =
    search rules in
    let left = g.R.Read.remaining in
    in_turn_more
    (λ text old new. OffersLines text old.0 new.0 old.1 new.1)
    string_bytes texts c.offers.text-index item (left c.args.input.now, c.args.control.now)
    (left c.offers.input, c.offers.control) (left c.offer_for.new.input, c.offer_for.new.control)
    c.offers-test.true c.offers.invariant
    (subst
    (λ t. OffersLines t (left c.offers.input) (left c.offer_for.new.input)
    c.offers.control c.offer_for.new.control)
    text_is c.in_ok-offer_for.ensures.offers)

pub returns-in_err-offer_for-clause-refused : goal.returns-in_err-offer_for-clause-refused
returns-in_err-offer_for-clause-refused g c =
    let texts = c.args.offers.now in
    let item = c.text-item.result in
    let text_is : c.as_str.result.now ≡ string_bytes (get_or texts c.offers.text-index item) =
    search rules in
    let left = g.R.Read.remaining in
    let error = c.in_err-offer_for.field-0.0 in
    let is_error : c.from_residual.result ≡ Err error = search rules in
    let fails : OffersNoLines (map string_bytes texts) (left c.args.input.now, c.args.control.now)
    error =
    fails_in_turn
    (λ text old new. OffersLines text old.0 new.0 old.1 new.1)
    string_bytes (λ text mid. IsOfferRefused text mid.0 mid.1 error)
    texts c.offers.text-index item (left c.args.input.now, c.args.control.now)
    (left c.offers.input, c.offers.control) c.offers-test.true c.offers.invariant
    (subst (λ t. IsOfferRefused t (left c.offers.input) c.offers.control error)
    text_is c.in_err-offer_for.ensures.refused) in
    subst
    (λ r. IfErr r (OffersNoLines (map string_bytes texts)
    (left c.args.input.now, c.args.control.now)))
    (sym is_error) fails
