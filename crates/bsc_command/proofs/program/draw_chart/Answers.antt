-- Shows that the fault of drawing says what its error says.
use Rattle.bsc_options.specs.ChartWords.{chart_given}
use Rattle.bsc_command.proofs.Charts.{trace_early, trace_failed, trace_is_fault}
use Rattle.bsc_command.proofs.program.draw_chart.Goals as goal

pub returns-in-Err-clause-fault : goal.returns-in-Err-clause-fault
returns-in-Err-clause-fault g c =
    trace_is_fault c.in-Err.error c.trace_fault.result c.trace_fault.ensures

pub returns-in-Err-clause-failed : goal.returns-in-Err-clause-failed
returns-in-Err-clause-failed g c =
    trace_failed (chart_given c.args.words.now) (g.R.Read.remaining c.args.input.now)
    (g.W.Write.contents c.args.out.now) (g.W.Write.contents c.draw_named.new.out) c.in-Err.error
    c.trace_fault.result c.trace_fault.ensures c.in-Err.ensures.failed

pub returns-in-Err-clause-early : goal.returns-in-Err-clause-early
returns-in-Err-clause-early g c = λ early.
    c.in-Err.ensures.early
    (trace_early c.in-Err.error c.trace_fault.result c.trace_fault.ensures early)

pub returns-in-Err-clause-undrawn : goal.returns-in-Err-clause-undrawn
returns-in-Err-clause-undrawn g c =
    (c.in-Err.error, c.trace_fault.ensures, c.in-Err.ensures.undrawn, c.in-Err.ensures.untold)
