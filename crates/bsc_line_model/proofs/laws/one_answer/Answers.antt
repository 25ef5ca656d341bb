-- `one_answer`: at most one terminal answers.
use Rattle.bsc_line_model.proofs.OneAnswer.{one_terminal_answers}
use Rattle.bsc_line_model.proofs.laws.one_answer.Goals as goal

pub returns : goal.returns
returns c = λ message hears old new line carried trusted t u there also sends answers.
    one_terminal_answers (record {
      polling = c.own_addresses.ensures.polling;
      selection =
          c.own_addresses.ensures.selection;
    }) message hears old new t u
    (record { line = line; carried = carried; trusted = trusted })
    (record { there = there; sent = sends }) (record { there = also; sent = answers })
