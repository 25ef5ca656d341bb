-- `hear_unkept` lets the terminal hear.
use Rattle.bsc_line.proofs.EachHearing.{hearing_with_answer}
use Rattle.bsc_line.proofs.terminals.hear_unkept.Goals as goal

pub returns : goal.returns
returns g c =
    hearing_with_answer c.args.terminal.now c.args.heard.now c.answer.new.self c.answer.new.sent
    c.answer.ensures
