-- Shows that a line that is no answer leaves the lines so far without one, and that the lines up to
-- an answer are those that were heard.
use Rattle.bsc_clients.specs.declared.command.answers.Kind.TheVariants.{Done, News, Refused}
use Rattle.bsc_clients.proofs.Told.{hears_more, hears_nil, news_answer, news_more, news_nil}
use Rattle.bsc_clients.proofs.command.exchange.answer.Goals as goal

pub lines-init : goal.lines-init
lines-init g c = (
  news_nil (g.W.Write.contents c.args.out.now),
  hears_nil (g.B.Read.remaining c.args.heard.now) (g.W.Write.contents c.args.out.now),
)

pub lines-preserved : goal.lines-preserved
lines-preserved g c = (
  news_more (g.W.Write.contents c.args.out.now) (g.W.Write.contents c.lines.out)
      (g.W.Write.contents c.next_line.new.out) c.lines.invariant.0
      (rw c.in-Some-News.field-0-is at rw c.in-Some-News.is at c.in_ok-next_line.ensures.line),
  hears_more News (g.B.Read.remaining c.args.heard.now) (g.B.Read.remaining c.lines.heard)
      (g.B.Read.remaining c.next_line.new.heard) (g.W.Write.contents c.args.out.now)
      (g.W.Write.contents c.lines.out) (g.W.Write.contents c.next_line.new.out)
      c.lines.invariant.1
      (rw c.in-Some-News.field-0-is at rw c.in-Some-News.is at c.in_ok-next_line.ensures.heard),
)

pub returns-in-Some-Done-clause-done : goal.returns-in-Some-Done-clause-done
returns-in-Some-Done-clause-done g c =
    news_answer Done (g.W.Write.contents c.args.out.now) (g.W.Write.contents c.lines.out)
    (g.W.Write.contents c.next_line.new.out) c.lines.invariant.0
    (rw c.in-Some-Done.field-0-is at rw c.in-Some-Done.is at c.in_ok-next_line.ensures.line)

pub returns-in-Some-Done-clause-heard : goal.returns-in-Some-Done-clause-heard
returns-in-Some-Done-clause-heard g c =
    hears_more Done (g.B.Read.remaining c.args.heard.now) (g.B.Read.remaining c.lines.heard)
    (g.B.Read.remaining c.next_line.new.heard) (g.W.Write.contents c.args.out.now)
    (g.W.Write.contents c.lines.out) (g.W.Write.contents c.next_line.new.out)
    c.lines.invariant.1
    (rw c.in-Some-Done.field-0-is at rw c.in-Some-Done.is at c.in_ok-next_line.ensures.heard)

pub returns-in-Some-Refused-clause-refused : goal.returns-in-Some-Refused-clause-refused
returns-in-Some-Refused-clause-refused g c =
    λ _. news_answer Refused (g.W.Write.contents c.args.out.now) (g.W.Write.contents c.lines.out)
    (g.W.Write.contents c.next_line.new.out) c.lines.invariant.0
    (rw c.in-Some-Refused.field-0-is at rw c.in-Some-Refused.is
    at c.in_ok-next_line.ensures.line)
