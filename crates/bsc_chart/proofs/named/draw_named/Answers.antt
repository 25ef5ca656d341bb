-- Shows that what is told of the trace is told of the words.
use Rattle.std.proofs.Common.{option_map, subst, sym}
use Rattle.bsc_options.specs.ChartWords.{chart_given}
use Rattle.bsc_chart.proofs.Kept.{untold_trans}
use Rattle.bsc_chart.proofs.TraceErrors.{charted, failed, late_traces, named_charted}
use Rattle.bsc_chart.proofs.TraceErrors.{named_failed, words_failed, wrong_words}
use Rattle.bsc_chart.proofs.named.draw_named.Goals as goal

pub returns-in-Ok-clause-ok : goal.returns-in-Ok-clause-ok
returns-in-Ok-clause-ok g c =
    charted (chart_given c.args.words.now) (g.R.Read.remaining c.args.input.now)
    (g.W.Write.contents c.args.out.now) (g.W.Write.contents c.draw_and_tell.new.out)
    (option_map (λ w. w.now) c.text_of.result) c.in-Ok.drawing c.draw_and_tell.result c.in-Ok.ensures
    c.draw_and_tell.ensures.ok

pub returns-in-Ok-clause-drawn : goal.returns-in-Ok-clause-drawn
returns-in-Ok-clause-drawn g c =
    named_charted g.T.Traces.tells g.T.Traces.opens g.T.File.Read.remaining
    (chart_given c.args.words.now) (option_map (λ w. w.now) c.text_of.result)
    c.in-Ok.drawing c.draw_and_tell.result (g.R.Read.remaining c.args.input.now)
    (g.W.Write.contents c.args.out.now) (g.W.Write.contents c.draw_and_tell.new.out)
    (g.T.Traces.told c.args.machine.now) (g.T.Traces.told c.columns-columns.new.self)
    (g.T.Traces.told c.draw_and_tell.new.machine)
    (subst g.T.Traces.tells (sym c.text_of.ensures) c.columns-columns.ensures.width) c.in-Ok.ensures
    c.columns-columns.ensures.untold c.draw_and_tell.ensures.drawn

pub returns-in-Ok-clause-undrawn : goal.returns-in-Ok-clause-undrawn
returns-in-Ok-clause-undrawn g c =
    named_failed g.T.Traces.tells g.T.Traces.opens g.T.Traces.refuses g.T.File.Read.remaining
    (chart_given c.args.words.now) (option_map (λ w. w.now) c.text_of.result)
    c.in-Ok.drawing c.draw_and_tell.result (g.R.Read.remaining c.args.input.now)
    (g.W.Write.contents c.args.out.now) (g.W.Write.contents c.draw_and_tell.new.out)
    (subst g.T.Traces.tells (sym c.text_of.ensures) c.columns-columns.ensures.width) c.in-Ok.ensures
    c.draw_and_tell.ensures.undrawn

pub returns-in-Ok-clause-failed : goal.returns-in-Ok-clause-failed
returns-in-Ok-clause-failed g c =
    failed (chart_given c.args.words.now) (g.R.Read.remaining c.args.input.now)
    (g.W.Write.contents c.args.out.now) (g.W.Write.contents c.draw_and_tell.new.out)
    (option_map (λ w. w.now) c.text_of.result) c.in-Ok.drawing c.draw_and_tell.result c.in-Ok.ensures
    c.draw_and_tell.ensures.failed

pub returns-in-Ok-clause-early : goal.returns-in-Ok-clause-early
returns-in-Ok-clause-early g c = late_traces _ c.draw_and_tell.result c.draw_and_tell.ensures.late

pub returns-clause-failed : goal.returns-clause-failed
returns-clause-failed g c =
    wrong_words (chart_given c.args.words.now) (g.R.Read.remaining c.args.input.now)
    (g.W.Write.contents c.args.out.now) (g.W.Write.contents c.args.out.now)
    (option_map (λ w. w.now) c.text_of.result) c.in-Err.error c.in-Err.ensures

pub returns-clause-undrawn : goal.returns-clause-undrawn
returns-clause-undrawn g c =
    words_failed g.T.Traces.tells g.T.Traces.opens g.T.Traces.refuses g.T.File.Read.remaining
    (chart_given c.args.words.now) (option_map (λ w. w.now) c.text_of.result) c.in-Err.error
    (g.R.Read.remaining c.args.input.now) (g.W.Write.contents c.args.out.now)
    (subst g.T.Traces.tells (sym c.text_of.ensures) c.columns-columns.ensures.width) c.in-Err.ensures

pub returns-in-Ok-clause-untold : goal.returns-in-Ok-clause-untold
returns-in-Ok-clause-untold g c =
    untold_trans c.draw_and_tell.result (g.T.Traces.told c.args.machine.now)
    (g.T.Traces.told c.columns-columns.new.self) (g.T.Traces.told c.draw_and_tell.new.machine)
    c.columns-columns.ensures.untold c.draw_and_tell.ensures.untold
