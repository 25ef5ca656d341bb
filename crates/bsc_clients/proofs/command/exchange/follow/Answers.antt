-- Shows that a line that is no fault leaves the lines so far without one, and that so does the end.
use Rattle.std.proofs.Common.{sym, ◌∙◌}
use Rattle.bsc_clients.proofs.Told.{heard_end, heard_first, heard_more, told_end, told_more}
use Rattle.bsc_clients.proofs.Told.{told_fault, told_nil}
use Rattle.bsc_clients.proofs.command.exchange.follow.Goals as goal

pub lines-init : goal.lines-init
lines-init g c = (
  told_nil (g.W.Write.contents c.args.out.now),
  heard_first (g.B.Read.remaining c.args.heard.now) (g.W.Write.contents c.args.out.now),
)

pub returns-in-None-clause-told : goal.returns-in-None-clause-told
returns-in-None-clause-told g c =
    told_end (g.W.Write.contents c.args.out.now) (g.W.Write.contents c.lines.out)
    (g.W.Write.contents c.next_line.new.out) c.lines.invariant.0
    (rw c.in-None.is at c.in_ok-kind.ensures.line)

pub returns-in-None-clause-heard : goal.returns-in-None-clause-heard
returns-in-None-clause-heard g c =
    heard_end (g.B.Read.remaining c.args.heard.now) (g.B.Read.remaining c.lines.heard)
    (g.B.Read.remaining c.next_line.new.heard) (g.W.Write.contents c.args.out.now)
    (g.W.Write.contents c.lines.out) (g.W.Write.contents c.next_line.new.out)
    c.lines.invariant.1 (rw c.in-None.is at c.in_ok-kind.ensures.heard)

pub lines-preserved : goal.lines-preserved
lines-preserved g c =
    let other = sym c.is_fault.ensures ∙ c.if-is_fault.false in (
      told_more c.in-Some.kind (g.W.Write.contents c.args.out.now) (g.W.Write.contents c.lines.out)
          (g.W.Write.contents c.next_line.new.out) c.lines.invariant.0
          (rw c.in-Some.is at c.in_ok-kind.ensures.line) other,
      heard_more c.in-Some.kind (g.B.Read.remaining c.args.heard.now)
          (g.B.Read.remaining c.lines.heard) (g.B.Read.remaining c.next_line.new.heard)
          (g.W.Write.contents c.args.out.now) (g.W.Write.contents c.lines.out)
          (g.W.Write.contents c.next_line.new.out) c.lines.invariant.1
          (rw c.in-Some.is at c.in_ok-kind.ensures.heard) other,
    )

pub returns-then-is_fault-clause-refused : goal.returns-then-is_fault-clause-refused
returns-then-is_fault-clause-refused g c =
    λ _. told_fault c.in-Some.kind (g.W.Write.contents c.args.out.now)
    (g.W.Write.contents c.lines.out) (g.W.Write.contents c.next_line.new.out)
    c.lines.invariant.0 (rw c.in-Some.is at c.in_ok-kind.ensures.line)
    (sym c.is_fault.ensures ∙ c.if-is_fault.true)
