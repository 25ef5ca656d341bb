-- Shows that the trace that is named is drawn.
use Rattle.bsc_options.specs.ChartWords.{chart_given}
use Rattle.bsc_chart.specs.Named.{file_of}
use Rattle.bsc_chart.proofs.TraceErrors.{file_drawn, file_failed, input_drawn, input_failed}
use Rattle.bsc_chart.proofs.TraceErrors.{fails_file, fails_input, names_file, names_input}
use Rattle.bsc_chart.proofs.TraceErrors.{none_some}
use Rattle.bsc_chart.proofs.named.draw_from.Goals as goal

pub returns-in-None-clause-ok : goal.returns-in-None-clause-ok
returns-in-None-clause-ok g c =
    input_drawn (chart_given c.args.words.now) (g.R.Read.remaining c.args.input.now)
    (g.W.Write.contents c.args.out.now) (g.W.Write.contents c.draw_input.new.out)
    c.args.drawing c.draw_input.result c.draw_input.ensures.ok

pub returns-in-None-clause-failed : goal.returns-in-None-clause-failed
returns-in-None-clause-failed g c =
    input_failed (chart_given c.args.words.now) (g.R.Read.remaining c.args.input.now)
    (g.W.Write.contents c.args.out.now) (g.W.Write.contents c.draw_input.new.out)
    c.args.drawing c.draw_input.result c.draw_input.ensures.failed

pub returns-in-None-clause-drawn : goal.returns-in-None-clause-drawn
returns-in-None-clause-drawn g c =
    names_input g.T.Traces.opens g.T.File.Read.remaining
    (file_of (chart_given c.args.words.now).file) c.args.drawing c.draw_input.result
    (g.R.Read.remaining c.args.input.now) (g.W.Write.contents c.args.out.now)
    (g.W.Write.contents c.draw_input.new.out) c.in-None.ensures c.draw_input.ensures.ok
    c.draw_input.ensures.passed

pub returns-in-None-clause-undrawn : goal.returns-in-None-clause-undrawn
returns-in-None-clause-undrawn g c =
    fails_input g.T.Traces.opens g.T.Traces.refuses g.T.File.Read.remaining
    (file_of (chart_given c.args.words.now).file) c.args.drawing c.draw_input.result
    (g.R.Read.remaining c.args.input.now) (g.W.Write.contents c.args.out.now)
    (g.W.Write.contents c.draw_input.new.out) c.in-None.ensures c.draw_input.ensures.failed

pub returns-in-Some-clause-drawn : goal.returns-in-Some-clause-drawn
returns-in-Some-clause-drawn g c =
    names_file g.T.Traces.opens g.T.File.Read.remaining
    (file_of (chart_given c.args.words.now).file) c.in-Some.path.now c.args.drawing
    c.draw_file.result (g.R.Read.remaining c.args.input.now) (g.W.Write.contents c.args.out.now)
    (g.W.Write.contents c.draw_file.new.out) c.in-Some.ensures c.draw_file.ensures.read

pub returns-in-Some-clause-undrawn : goal.returns-in-Some-clause-undrawn
returns-in-Some-clause-undrawn g c =
    fails_file g.T.Traces.opens g.T.Traces.refuses g.T.File.Read.remaining
    (file_of (chart_given c.args.words.now).file) c.in-Some.path.now c.args.drawing
    c.draw_file.result (g.R.Read.remaining c.args.input.now) (g.W.Write.contents c.args.out.now)
    (g.W.Write.contents c.draw_file.new.out) c.in-Some.ensures c.draw_file.ensures.unread

pub returns-in-None-clause-unasked : goal.returns-in-None-clause-unasked
returns-in-None-clause-unasked g c = λ path is.
    absurd (none_some (file_of (chart_given c.args.words.now).file) path c.in-None.ensures is)

pub returns-in-Some-clause-ok : goal.returns-in-Some-clause-ok
returns-in-Some-clause-ok g c =
    file_drawn (chart_given c.args.words.now) (g.R.Read.remaining c.args.input.now)
    (g.W.Write.contents c.args.out.now) (g.W.Write.contents c.draw_file.new.out)
    c.args.drawing c.in-Some.path.now c.draw_file.result c.in-Some.ensures c.draw_file.ensures.ok

pub returns-in-Some-clause-failed : goal.returns-in-Some-clause-failed
returns-in-Some-clause-failed g c =
    file_failed (chart_given c.args.words.now) (g.R.Read.remaining c.args.input.now)
    (g.W.Write.contents c.args.out.now) (g.W.Write.contents c.draw_file.new.out)
    c.args.drawing c.in-Some.path.now c.draw_file.result c.in-Some.ensures
    c.draw_file.ensures.failed
