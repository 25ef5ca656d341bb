-- Shows that an error of drawing a file is told with the name of the file, if it is one of reading.
use Rattle.bsc_chart.proofs.TraceErrors.{read_late, read_says}
use Rattle.bsc_chart.proofs.named.draw_opened.Goals as goal

pub returns-in-Err-clause-failed : goal.returns-in-Err-clause-failed
returns-in-Err-clause-failed g c =
    read_says c.args.drawing c.args.path.now c.in-Err.error c.file_error.result
    (g.F.Read.remaining c.args.file.now) (g.W.Write.contents c.args.out.now)
    (g.W.Write.contents c.chart.new.out) c.file_error.ensures c.in-Err.ensures.stopped

pub returns-in-Err-clause-late : goal.returns-in-Err-clause-late
returns-in-Err-clause-late g c =
    read_late c.args.drawing c.args.path.now c.in-Err.error c.file_error.result
    c.file_error.ensures c.in-Err.ensures.faults
