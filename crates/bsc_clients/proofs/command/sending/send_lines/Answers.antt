-- Shows that the commands of the lines are sent in order, up to the first that is refused.
use Rattle.bsc_clients.proofs.Sent.{sent_all, sent_fault, sent_first, sent_more}
use Rattle.bsc_clients.proofs.Told.{hears_nil, hears_trans}
use Rattle.bsc_clients.proofs.command.sending.send_lines.Goals as goal

pub lines-init : goal.lines-init
lines-init g c = (
  sent_first (g.L.Read.remaining c.args.input.now) c.args.text.now
      (g.O.Write.contents c.args.said.now) (g.W.Write.contents c.args.out.now),
  hears_nil (g.B.Read.remaining c.args.heard.now) (g.W.Write.contents c.args.out.now),
)

pub lines-preserved : goal.lines-preserved
lines-preserved g c = (
  sent_more (g.L.Read.remaining c.args.input.now) (g.L.Read.remaining c.lines.input)
      (g.L.Read.remaining c.read_line.new.reader) c.args.text.now c.read_line.new.line.items
      c.lines.follows c.in-Ok-send_line.more
      (g.O.Write.contents c.args.said.now) (g.O.Write.contents c.lines.said)
      (g.O.Write.contents c.send_line.new.said)
      (g.W.Write.contents c.args.out.now) (g.W.Write.contents c.lines.out)
      (g.W.Write.contents c.send_line.new.out) c.lines.invariant.0
      (rw c.in-LineFeed.is at c.in-Ok.ensures.line)
      (rw c.deref.ensures.value at c.in-Ok-send_line.ensures.sent),
  hears_trans (g.B.Read.remaining c.args.heard.now) (g.B.Read.remaining c.lines.heard)
      (g.B.Read.remaining c.send_line.new.heard) (g.W.Write.contents c.args.out.now)
      (g.W.Write.contents c.lines.out) (g.W.Write.contents c.send_line.new.out)
      c.lines.invariant.1 c.in-Ok-send_line.ensures.heard,
)

pub returns-in-Err-send_line-clause-refused : goal.returns-in-Err-send_line-clause-refused
returns-in-Err-send_line-clause-refused g c =
    λ e. sent_fault (g.L.Read.remaining c.args.input.now) (g.L.Read.remaining c.lines.input)
    c.args.text.now c.lines.follows
    (g.O.Write.contents c.args.said.now) (g.O.Write.contents c.lines.said)
    (g.W.Write.contents c.args.out.now) (g.W.Write.contents c.lines.out)
    (g.W.Write.contents c.send_line.new.out) c.lines.invariant.0
    (c.in-Err-send_line.ensures.refused e)

pub returns-in-Ok-send_last-clause-sent : goal.returns-in-Ok-send_last-clause-sent
returns-in-Ok-send_last-clause-sent g c =
    sent_all (g.L.Read.remaining c.args.input.now) (g.L.Read.remaining c.lines.input)
    (g.L.Read.remaining c.read_line.new.reader) c.args.text.now c.read_line.new.line.items
    c.lines.follows c.in-Ok-send_last.more
    (g.O.Write.contents c.args.said.now) (g.O.Write.contents c.lines.said)
    (g.O.Write.contents c.send_last.new.said)
    (g.W.Write.contents c.args.out.now) (g.W.Write.contents c.lines.out)
    (g.W.Write.contents c.send_last.new.out) c.lines.invariant.0
    (rw c.in-InputEnd.is at c.in-Ok.ensures.line)
    (rw c.deref-in-InputEnd.ensures.value at c.in-Ok-send_last.ensures.sent)

pub returns-in-Err-send_last-clause-refused : goal.returns-in-Err-send_last-clause-refused
returns-in-Err-send_last-clause-refused g c =
    λ e. sent_fault (g.L.Read.remaining c.args.input.now) (g.L.Read.remaining c.lines.input)
    c.args.text.now c.lines.follows
    (g.O.Write.contents c.args.said.now) (g.O.Write.contents c.lines.said)
    (g.W.Write.contents c.args.out.now) (g.W.Write.contents c.lines.out)
    (g.W.Write.contents c.send_last.new.out) c.lines.invariant.0
    (c.in-Err-send_last.ensures.refused e)

pub returns-in-Ok-send_last-clause-heard : goal.returns-in-Ok-send_last-clause-heard
returns-in-Ok-send_last-clause-heard g c =
    hears_trans (g.B.Read.remaining c.args.heard.now) (g.B.Read.remaining c.lines.heard)
    (g.B.Read.remaining c.send_last.new.heard) (g.W.Write.contents c.args.out.now)
    (g.W.Write.contents c.lines.out) (g.W.Write.contents c.send_last.new.out)
    c.lines.invariant.1 c.in-Ok-send_last.ensures.heard
