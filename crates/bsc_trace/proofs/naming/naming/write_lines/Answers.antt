-- Shows that the loop prints the lines in order, up to the first that is refused.
use Rattle.std.proofs.Common.{◌≡◌, [], ◌∷◌, Ok, Err, sym, ap, ◌∙◌, rules}
use Rattle.std.specs.Str.Lines.{strip_carriage_return}
use Rattle.bsc_text.proofs.Fronts.{extends_trans}
use Rattle.bsc_trace.proofs.Lines.{extends_lines}
use Rattle.bsc_trace.proofs.Printed.{extends_kept, printed_kept, printed_last, printed_line}
use Rattle.bsc_trace.proofs.Printed.{stopped_first, stopped_next, stopped_write}
use Rattle.bsc_trace.proofs.naming.naming.write_lines.Goals as goal

pub returns-in-Err-clause-stopped : goal.returns-in-Err-clause-stopped
returns-in-Err-clause-stopped g c =
    let kept =
    printed_kept (g.B.Read.remaining c.args.reader.now) (g.B.Read.remaining c.lines.reader)
    c.args.detail c.lines.number (g.W.Write.contents c.args.out.now)
    (g.W.Write.contents c.lines.out) (g.W.Write.contents c.next_line.new.out)
    c.lines.invariant.printed c.next_line.ensures.kept in
    rw c.read_error.ensures (stopped_next c.args.detail c.lines.number
    (g.W.Write.contents c.args.out.now) (g.W.Write.contents c.next_line.new.out)
    (g.W.Write.contents c.next_line.new.out) (g.B.Read.remaining c.args.reader.now)
    (g.B.Read.remaining c.lines.reader) c.in-Err.error kept
    (λ e. c.in-Err.ensures.too_long (ap Err e)))

pub returns-in-Err-clause-stays : goal.returns-in-Err-clause-stays
returns-in-Err-clause-stays g c =
    extends_kept (g.W.Write.contents c.args.out.now) (g.W.Write.contents c.lines.out)
    (g.W.Write.contents c.next_line.new.out) c.lines.invariant.stays c.next_line.ensures.kept

pub returns-in_err-write_line-clause-stopped : goal.returns-in_err-write_line-clause-stopped
returns-in_err-write_line-clause-stopped g c =
    let kept =
    printed_kept (g.B.Read.remaining c.args.reader.now) (g.B.Read.remaining c.lines.reader)
    c.args.detail c.lines.number (g.W.Write.contents c.args.out.now)
    (g.W.Write.contents c.lines.out) (g.W.Write.contents c.next_line.new.out)
    c.lines.invariant.printed c.next_line.ensures.kept in
    let error = c.in_err-write_line.field-0.0 in
    let same : c.from_residual.result ≡ Err error = search rules in
    let stopped : c.write_line.result ≡ Err error = c.in_err-write_line.was in
    let line : c.without_return.result.now ≡ strip_carriage_return c.next_line.new.line.items =
    c.without_return.ensures ∙ ap strip_carriage_return c.deref.ensures.value in
    rw same (stopped_write c.args.detail c.lines.number (g.W.Write.contents c.args.out.now)
    (g.W.Write.contents c.next_line.new.out) (g.W.Write.contents c.write_line.new.out)
    (g.B.Read.remaining c.args.reader.now) (g.B.Read.remaining c.lines.reader)
    (g.B.Read.remaining c.next_line.new.reader) c.in-Ok.end c.next_line.new.line.items
    c.without_return.result.now error kept c.in-Ok.ensures.line c.in-Ok.ensures.fits
    line
    (λ k e. let told = c.write_line.ensures.wrong k (stopped ∙ ap Err e) in
    (told.0, told.1, ap g.W.Write.contents told.2))
    (rw stopped at c.write_line.ensures.front) (rw stopped at c.write_line.ensures.faults))

pub returns-in_err-write_line-clause-stays : goal.returns-in_err-write_line-clause-stays
returns-in_err-write_line-clause-stays g c =
    let stays =
    extends_kept (g.W.Write.contents c.args.out.now) (g.W.Write.contents c.lines.out)
    (g.W.Write.contents c.next_line.new.out) c.lines.invariant.stays
    c.next_line.ensures.kept in
    extends_trans (g.W.Write.contents c.args.out.now) (g.W.Write.contents c.next_line.new.out)
    (g.W.Write.contents c.write_line.new.out) stays
    (extends_lines c.args.detail (c.without_return.result.now ∷ [])
    (g.W.Write.contents c.next_line.new.out) (g.W.Write.contents c.write_line.new.out)
    c.write_line.result c.write_line.ensures.ok c.write_line.ensures.front)

pub returns-in-InputEnd-clause-stays : goal.returns-in-InputEnd-clause-stays
returns-in-InputEnd-clause-stays g c =
    let stays =
    extends_kept (g.W.Write.contents c.args.out.now) (g.W.Write.contents c.lines.out)
    (g.W.Write.contents c.next_line.new.out) c.lines.invariant.stays
    c.next_line.ensures.kept in
    extends_trans (g.W.Write.contents c.args.out.now) (g.W.Write.contents c.next_line.new.out)
    (g.W.Write.contents c.write_line.new.out) stays
    (extends_lines c.args.detail (c.without_return.result.now ∷ [])
    (g.W.Write.contents c.next_line.new.out) (g.W.Write.contents c.write_line.new.out)
    c.write_line.result c.write_line.ensures.ok c.write_line.ensures.front)

pub returns-in-InputEnd-clause-ok : goal.returns-in-InputEnd-clause-ok
returns-in-InputEnd-clause-ok g c =
    let kept =
    printed_kept (g.B.Read.remaining c.args.reader.now) (g.B.Read.remaining c.lines.reader)
    c.args.detail c.lines.number (g.W.Write.contents c.args.out.now)
    (g.W.Write.contents c.lines.out) (g.W.Write.contents c.next_line.new.out)
    c.lines.invariant.printed c.next_line.ensures.kept in
    let line : c.without_return.result.now ≡ strip_carriage_return c.next_line.new.line.items =
    c.without_return.ensures ∙ ap strip_carriage_return c.deref.ensures.value in
    printed_last c.args.detail c.lines.number (g.W.Write.contents c.args.out.now)
    (g.W.Write.contents c.next_line.new.out) (g.W.Write.contents c.write_line.new.out)
    (g.B.Read.remaining c.args.reader.now) (g.B.Read.remaining c.lines.reader)
    (g.B.Read.remaining c.next_line.new.reader) c.next_line.new.line.items
    c.without_return.result.now kept (rw c.in-InputEnd.is at c.in-Ok.ensures.line)
    c.in-Ok.ensures.fits line c.in_ok-write_line.ensures.right c.in_ok-write_line.ensures.ok

pub lines-preserved : goal.lines-preserved
lines-preserved g c =
    let kept =
    printed_kept (g.B.Read.remaining c.args.reader.now) (g.B.Read.remaining c.lines.reader)
    c.args.detail c.lines.number (g.W.Write.contents c.args.out.now)
    (g.W.Write.contents c.lines.out) (g.W.Write.contents c.next_line.new.out)
    c.lines.invariant.printed c.next_line.ensures.kept in
    let stays =
    extends_kept (g.W.Write.contents c.args.out.now) (g.W.Write.contents c.lines.out)
    (g.W.Write.contents c.next_line.new.out) c.lines.invariant.stays
    c.next_line.ensures.kept in
    let line : c.without_return.result.now ≡ strip_carriage_return c.next_line.new.line.items =
    c.without_return.ensures ∙ ap strip_carriage_return c.deref.ensures.value in
    record {
      printed = printed_line c.args.detail c.lines.number (g.W.Write.contents c.args.out.now)
          (g.W.Write.contents c.next_line.new.out) (g.W.Write.contents c.write_line.new.out)
          (g.B.Read.remaining c.args.reader.now) (g.B.Read.remaining c.lines.reader)
          (g.B.Read.remaining c.next_line.new.reader) c.next_line.new.line.items
          c.without_return.result.now kept (rw c.in-LineFeed.is at c.in-Ok.ensures.line)
          c.in-Ok.ensures.fits line c.in_ok-write_line.ensures.right c.in_ok-write_line.ensures.ok;
      stays =
          extends_trans (g.W.Write.contents c.args.out.now) (g.W.Write.contents c.next_line.new.out)
          (g.W.Write.contents c.write_line.new.out) stays
          (extends_lines c.args.detail (c.without_return.result.now ∷ [])
          (g.W.Write.contents c.next_line.new.out) (g.W.Write.contents c.write_line.new.out)
          c.write_line.result c.write_line.ensures.ok c.write_line.ensures.front);
    }

pub returns-clause-stopped : goal.returns-clause-stopped
returns-clause-stopped g c =
    stopped_first c.args.detail c.lines.number (g.W.Write.contents c.args.out.now)
    (g.W.Write.contents c.lines.out) (g.W.Write.contents c.lines.out)
    (g.B.Read.remaining c.args.reader.now) (g.B.Read.remaining c.lines.reader) c.lines.invariant.printed
