-- Shows that a command is skipped, or is sent and answered.
use Rattle.std.proofs.Common.{sym, ◌∙◌}
use Rattle.bsc_clients.specs.declared.command.error.FeedError.TheVariants.{Refused}
use Rattle.bsc_clients.proofs.Errors.{error_moved}
use Rattle.bsc_clients.proofs.Sent.{answer_fault, some_sent, some_skipped}
use Rattle.bsc_clients.proofs.command.sending.send_command.Goals as goal

pub returns-then-is_unsent-clause-sent : goal.returns-then-is_unsent-clause-sent
returns-then-is_unsent-clause-sent g c =
    some_skipped c.args.command.now (g.O.Write.contents c.args.said.now)
    (g.W.Write.contents c.args.out.now) (sym c.is_unsent.ensures ∙ c.if-is_unsent.true)

pub returns-in-Ok-clause-sent : goal.returns-in-Ok-clause-sent
returns-in-Ok-clause-sent g c =
    some_sent c.args.command.now c.is_follow.result
    (g.O.Write.contents c.args.said.now) (g.O.Write.contents c.exchange.new.said)
    (g.W.Write.contents c.args.out.now) (g.W.Write.contents c.exchange.new.out)
    (sym c.is_unsent.ensures ∙ c.if-is_unsent.false) c.is_follow.ensures
    c.in-Ok.ensures.said c.in-Ok.ensures.done

pub returns-in-Err-clause-refused : goal.returns-in-Err-clause-refused
returns-in-Err-clause-refused g c =
    λ e. answer_fault (g.W.Write.contents c.args.out.now) (g.W.Write.contents c.exchange.new.out)
    (c.in-Err.ensures.refused (error_moved c.in-Err.error Refused e))
