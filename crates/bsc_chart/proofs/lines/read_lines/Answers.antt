-- Shows that the loop draws the lines in order, up to the first that is refused.
use Rattle.std.proofs.Common.{◌≡◌, ◌+◌, Err, ap, ◌∙◌, rules}
use Rattle.std.specs.Str.Lines.{strip_carriage_return}
use Rattle.bsc_chart.specs.Counts.{one_if}
use Rattle.bsc_chart.specs.Pages.{page_in}
use Rattle.bsc_chart.proofs.Drawn.{counted_below, drawn_last, drawn_line, first_kept}
use Rattle.bsc_chart.proofs.Drawn.{stopped_first, stopped_next, stopped_write}
use Rattle.bsc_chart.proofs.Ends.{draw_fault, read_fault}
use Rattle.bsc_chart.proofs.lines.read_lines.Goals as goal

pub returns-in-Err-clause-stopped : goal.returns-in-Err-clause-stopped
returns-in-Err-clause-stopped g c =
    let kept =
    first_kept (g.B.Read.remaining c.args.reader.now) (g.B.Read.remaining c.lines.reader)
    c.args.drawing c.lines.number (page_in c.lines.page) c.lines.passed
    (g.W.Write.contents c.args.out.now) (g.W.Write.contents c.lines.out)
    (g.W.Write.contents c.next_line.new.out) c.lines.invariant.drawn c.next_line.ensures.kept in
    rw c.read_error.ensures (stopped_next c.args.drawing c.lines.number (page_in c.lines.page) c.lines.passed
    (g.W.Write.contents c.args.out.now) (g.W.Write.contents c.next_line.new.out)
    (g.W.Write.contents c.next_line.new.out) (g.B.Read.remaining c.args.reader.now)
    (g.B.Read.remaining c.lines.reader) c.in-Err.error kept
    (λ e. c.in-Err.ensures.too_long (ap Err e)))

pub returns-in_err-is_passed-clause-stopped : goal.returns-in_err-is_passed-clause-stopped
returns-in_err-is_passed-clause-stopped g c =
    let kept =
    first_kept (g.B.Read.remaining c.args.reader.now) (g.B.Read.remaining c.lines.reader)
    c.args.drawing c.lines.number (page_in c.lines.page) c.lines.passed
    (g.W.Write.contents c.args.out.now) (g.W.Write.contents c.lines.out)
    (g.W.Write.contents c.next_line.new.out) c.lines.invariant.drawn c.next_line.ensures.kept in
    let error = c.in_err-is_passed.field-0.0 in
    let same : c.from_residual.result ≡ Err error = search rules in
    let stopped : c.draw_line.result ≡ Err error = c.in_err-is_passed.was in
    rw same (stopped_write c.args.drawing c.lines.number (page_in c.lines.page) c.lines.passed
    (g.W.Write.contents c.args.out.now) (g.W.Write.contents c.next_line.new.out)
    (g.W.Write.contents c.draw_line.new.out) (g.B.Read.remaining c.args.reader.now)
    (g.B.Read.remaining c.lines.reader) error kept
    (λ e. let told = c.draw_line.ensures.full (stopped ∙ ap Err e) in
    (told.0, ap g.W.Write.contents told.1))
    (rw stopped at c.draw_line.ensures.faults))

pub returns-in-InputEnd-clause-ok : goal.returns-in-InputEnd-clause-ok
returns-in-InputEnd-clause-ok g c =
    let kept =
    first_kept (g.B.Read.remaining c.args.reader.now) (g.B.Read.remaining c.lines.reader)
    c.args.drawing c.lines.number (page_in c.lines.page) c.lines.passed
    (g.W.Write.contents c.args.out.now) (g.W.Write.contents c.lines.out)
    (g.W.Write.contents c.next_line.new.out) c.lines.invariant.drawn c.next_line.ensures.kept in
    let line : c.without_return.result.now ≡ strip_carriage_return c.next_line.new.line.items =
    c.without_return.ensures ∙ ap strip_carriage_return c.deref.ensures.value in
    drawn_last c.args.drawing c.lines.number (page_in c.lines.page) c.lines.passed
    (g.W.Write.contents c.args.out.now) (g.W.Write.contents c.next_line.new.out)
    (g.W.Write.contents c.draw_line.new.out) (g.B.Read.remaining c.args.reader.now)
    (g.B.Read.remaining c.lines.reader) (g.B.Read.remaining c.next_line.new.reader)
    c.next_line.new.line.items c.without_return.result.now (page_in c.draw_line.new.page)
    c.counted-passed.result kept (rw c.in-InputEnd.is at c.in-Ok.ensures.line)
    c.in-Ok.ensures.fits line c.in_ok-is_passed.ensures.page c.in_ok-is_passed.ensures.drawn
    (c.counted-passed.ensures ∙ ap (λ passed. c.lines.passed + one_if passed) c.in_ok-is_passed.ensures.passed)

pub lines-preserved : goal.lines-preserved
lines-preserved g c =
    let kept =
    first_kept (g.B.Read.remaining c.args.reader.now) (g.B.Read.remaining c.lines.reader)
    c.args.drawing c.lines.number (page_in c.lines.page) c.lines.passed
    (g.W.Write.contents c.args.out.now) (g.W.Write.contents c.lines.out)
    (g.W.Write.contents c.next_line.new.out) c.lines.invariant.drawn c.next_line.ensures.kept in
    let line : c.without_return.result.now ≡ strip_carriage_return c.next_line.new.line.items =
    c.without_return.ensures ∙ ap strip_carriage_return c.deref.ensures.value in
    record {
      drawn =
          drawn_line c.args.drawing c.lines.number (page_in c.lines.page) c.lines.passed
          (g.W.Write.contents c.args.out.now) (g.W.Write.contents c.next_line.new.out)
          (g.W.Write.contents c.draw_line.new.out) (g.B.Read.remaining c.args.reader.now)
          (g.B.Read.remaining c.lines.reader) (g.B.Read.remaining c.next_line.new.reader)
          c.next_line.new.line.items c.without_return.result.now (page_in c.draw_line.new.page)
          c.counted-passed.result kept (rw c.in-LineFeed.is at c.in-Ok.ensures.line)
          c.in-Ok.ensures.fits line c.in_ok-is_passed.ensures.page c.in_ok-is_passed.ensures.drawn
          (c.counted-passed.ensures
          ∙ ap (λ passed. c.lines.passed + one_if passed) c.in_ok-is_passed.ensures.passed);
      fits = c.in_ok-is_passed.ensures.fits c.lines.invariant.fits;
      fewer = counted_below c.lines.number c.lines.passed c.counted-passed.result _ c.lines.invariant.fewer
          c.counted-passed.ensures;
    }

pub returns-clause-stopped : goal.returns-clause-stopped
returns-clause-stopped g c =
    stopped_first c.args.drawing c.lines.number (page_in c.lines.page) c.lines.passed
    (g.W.Write.contents c.args.out.now) (g.W.Write.contents c.lines.out)
    (g.W.Write.contents c.lines.out) (g.B.Read.remaining c.args.reader.now)
    (g.B.Read.remaining c.lines.reader) c.lines.invariant.drawn

pub returns-in-Err-clause-faults : goal.returns-in-Err-clause-faults
returns-in-Err-clause-faults g c =
    rw c.read_error.ensures (read_fault c.lines.number c.in-Err.error)

pub returns-in_err-is_passed-clause-faults : goal.returns-in_err-is_passed-clause-faults
returns-in_err-is_passed-clause-faults g c =
    let error = c.in_err-is_passed.field-0.0 in
    let same : c.from_residual.result ≡ Err error = search rules in
    let stopped : c.draw_line.result ≡ Err error = c.in_err-is_passed.was in
    rw same (draw_fault error (rw stopped at c.draw_line.ensures.faults))
