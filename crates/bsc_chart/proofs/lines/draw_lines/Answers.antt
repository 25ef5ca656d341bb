-- Shows that what is written last ends the ladder of the lines that were read.
use Rattle.bsc_chart.specs.Pages.{page_in}
use Rattle.bsc_chart.proofs.Ends.{end_drawn, end_fault, end_passed, end_stopped}
use Rattle.bsc_chart.proofs.lines.draw_lines.Goals as goal

pub returns-in-Ok-finish-clause-ok : goal.returns-in-Ok-finish-clause-ok
returns-in-Ok-finish-clause-ok g c =
    end_drawn c.args.drawing (page_in c.in-Ok.ended.page) c.in-Ok.ended.passed
    (g.B.Read.remaining c.args.reader.now) (g.W.Write.contents c.args.out.now)
    (g.W.Write.contents c.read_lines.new.out) (g.W.Write.contents c.finish.new.out)
    c.in-Ok.ensures.ok c.in-Ok-finish.ensures.ok
