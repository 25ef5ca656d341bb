-- Shows that a text is refused if there are no records at its path.
use Rattle.std.proofs.Common.{rules, ◌≡◌, subst, sym, IfErr, Err}
use Rattle.bsc_attending.specs.Offering.{IsOfferRefused, LacksRecords}
use Rattle.bsc_attending.proofs.Refused.{lacks_records_is_refused}
use Rattle.bsc_attending.proofs.offering.offer_for.Goals as goal

pub returns-in_err-records-clause-refused : goal.returns-in_err-records-clause-refused
returns-in_err-records-clause-refused g c =
    let text = c.args.text.now in
    let input = g.R.Read.remaining c.args.input.now in
    let error = c.in_err-records.field-0.0 in
    let is_error : c.from_residual.result ≡ Err error = search rules in
    let lacks : LacksRecords text input c.args.control.now error = search rules in
    subst (λ r. IfErr r (IsOfferRefused text input c.args.control.now)) (sym is_error)
    (lacks_records_is_refused text input c.args.control.now error lacks)
