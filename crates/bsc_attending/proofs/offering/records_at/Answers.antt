-- Shows that the line of the error is the first of the text that is not a record.
use Rattle.std.proofs.Common.{rules}
use Rattle.bsc_station.specs.Offers.{IsFirstRefused}
use Rattle.std.specs.Str.Lines.{lines}
use Rattle.bsc_attending.proofs.offering.records_at.Goals as goal

pub returns-in-Err-Refused-clause-refused : goal.returns-in-Err-Refused-clause-refused
returns-in-Err-Refused-clause-refused g c =
    let text = c.in_ok-text.text.items in
    let line = c.in-Err-Refused.line in
    let why = c.in-Err-Refused.why in
    let refused : IsFirstRefused c.args.setup.format.full line why (lines text) = search rules in
    c.offer_error.ensures.refused c.args.setup.format.full (g.R.Read.remaining c.args.input.now)
    (text, c.in_ok-text.ensures.text, refused)
