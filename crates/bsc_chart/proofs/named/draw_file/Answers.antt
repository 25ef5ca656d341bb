-- Shows that what a file gives is drawn, if it can be opened.
use Rattle.std.proofs.Common.{[], Some, inl, refl}
use Rattle.bsc_chart.proofs.TraceErrors.{opened_drawn, opened_failed, opened_read, opened_unread}
use Rattle.bsc_chart.proofs.TraceErrors.{unopened_says, unread_late}
use Rattle.bsc_chart.proofs.named.draw_file.Goals as goal

pub returns-in-Ok-clause-ok : goal.returns-in-Ok-clause-ok
returns-in-Ok-clause-ok g c =
    opened_drawn c.args.drawing c.args.path.now c.draw_opened.result
    (g.T.File.Read.remaining c.in-Ok.file) (g.W.Write.contents c.args.out.now)
    (g.W.Write.contents c.draw_opened.new.out) c.draw_opened.ensures.ok

pub returns-in-Ok-clause-read : goal.returns-in-Ok-clause-read
returns-in-Ok-clause-read g c =
    opened_read g.T.Traces.opens g.T.File.Read.remaining c.args.path.now c.args.drawing
    c.draw_opened.result c.in-Ok.file (g.W.Write.contents c.args.out.now)
    (g.W.Write.contents c.draw_opened.new.out) c.in-Ok.ensures.opened c.draw_opened.ensures.ok
    c.draw_opened.ensures.passed

pub returns-in-Ok-clause-unread : goal.returns-in-Ok-clause-unread
returns-in-Ok-clause-unread g c =
    opened_unread g.T.Traces.opens g.T.Traces.refuses g.T.File.Read.remaining c.args.path.now
    c.args.drawing c.draw_opened.result c.in-Ok.file (g.W.Write.contents c.args.out.now)
    (g.W.Write.contents c.draw_opened.new.out) c.in-Ok.ensures.opened
    c.draw_opened.ensures.failed

pub returns-in-Ok-clause-failed : goal.returns-in-Ok-clause-failed
returns-in-Ok-clause-failed g c =
    opened_failed c.args.drawing c.args.path.now c.draw_opened.result
    (g.T.File.Read.remaining c.in-Ok.file) (g.W.Write.contents c.args.out.now)
    (g.W.Write.contents c.draw_opened.new.out) c.draw_opened.ensures.failed

pub returns-in-Err-clause-failed : goal.returns-in-Err-clause-failed
returns-in-Err-clause-failed g c = (
  Some [],
  unopened_says c.args.drawing c.args.path.now c.in-Err.why c.cannot_read.result
      (g.W.Write.contents c.args.out.now) c.cannot_read.ensures,
)

pub returns-in-Err-clause-unread : goal.returns-in-Err-clause-unread
returns-in-Err-clause-unread g c =
    inl (c.in-Err.why, c.in-Err.ensures.refused, c.cannot_read.ensures, refl)

pub returns-in-Err-clause-late : goal.returns-in-Err-clause-late
returns-in-Err-clause-late g c =
    unread_late c.args.drawing c.args.path.now c.in-Err.why c.cannot_read.result
    c.cannot_read.ensures
