-- The lines before this number are drawn, the rows are not too many, and fewer lines than those
-- were passed over.
use Rattle.std.proofs.Common.{◌<◌, ◌≤◌, length}
use Rattle.bsc_chart.specs.Pages.{page_in}
use Rattle.bsc_chart.proofs.Drawn.{HasDrawnOf}
use Rattle.bsc_chart.proofs.lines.read_lines.Given as goal

abbrev pub invariant-lines : goal.invariant-lines
invariant-lines g l = record {
  drawn : HasDrawnOf (g.B.Read.remaining l.fn.reader) (g.B.Read.remaining l.reader) l.drawing
      l.number (page_in l.page) l.passed (g.W.Write.contents l.fn.out)
      (g.W.Write.contents l.out);
  fits : length l.page.rows.items ≤ 20000;
  fewer : l.passed < l.number;
}
