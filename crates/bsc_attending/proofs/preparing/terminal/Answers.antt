-- The records of a terminal are refused as its options name them.
use Rattle.std.proofs.Common.{rules, subst}
use Rattle.bsc_options.specs.Words.{words_value}
use Rattle.bsc_attending.specs.Offering.{AddsNoLines}
use Rattle.bsc_attending.specs.Preparing.{offers_in}
use Rattle.bsc_attending.proofs.preparing.terminal.Goals as goal

pub returns-in_err-offer_all_at_terminal-clause-refused :
    goal.returns-in_err-offer_all_at_terminal-clause-refused
returns-in_err-offer_all_at_terminal-clause-refused g c =
    let input = g.R.Read.remaining c.args.input.now in
    let fresh = c.new_terminal-terminal.result in
    let error = c.in_err-offer_all_at_terminal.field-0.0 in
    let refused : AddsNoLines (offers_in (words_value c.args.words.now)) (input, fresh) error =
    subst (λ offers. AddsNoLines offers (input, fresh) error) c.texts.ensures
    c.in_err-offer_all_at_terminal.ensures.refused in
    search rules
