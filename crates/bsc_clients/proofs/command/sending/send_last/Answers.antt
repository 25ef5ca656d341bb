-- Shows that an empty part is no line.
use Rattle.std.proofs.Common.{sym, ◌∙◌, length, eqb-true}
use Rattle.bsc_clients.proofs.Sent.{some_no_line}
use Rattle.bsc_clients.proofs.command.sending.send_last.Goals as goal

pub returns-then-is_empty-clause-sent : goal.returns-then-is_empty-clause-sent
returns-then-is_empty-clause-sent g c =
    some_no_line c.args.text.now c.args.line.now (g.O.Write.contents c.args.said.now)
    (g.W.Write.contents c.args.out.now)
    (eqb-true (length c.args.line.now) 0 (sym c.is_empty.ensures ∙ c.if-is_empty.true))
