-- Shows that what is told of the lines that were passed over comes after the ladder.
use Rattle.bsc_options.specs.ChartWords.{chart_given}
use Rattle.bsc_chart.specs.Named.{file_of}
use Rattle.bsc_chart.proofs.Kept.{holds_kept, named_told, named_unflushed, output_failed, output_late}
use Rattle.bsc_chart.proofs.Kept.{untold_trans}
use Rattle.bsc_chart.proofs.named.draw_and_tell.Goals as goal

pub returns-in-Ok-clause-ok : goal.returns-in-Ok-clause-ok
returns-in-Ok-clause-ok g c =
    holds_kept (chart_given c.args.words.now) c.args.drawing c.tell_passed.result
    (g.R.Read.remaining c.args.input.now) (g.W.Write.contents c.args.out.now)
    (g.W.Write.contents c.draw_from.new.out) (g.W.Write.contents c.tell_passed.new.out)
    c.in-Ok.ensures.ok c.tell_passed.ensures.kept

pub returns-in-Ok-clause-failed : goal.returns-in-Ok-clause-failed
returns-in-Ok-clause-failed g c =
    output_failed (chart_given c.args.words.now) c.args.drawing
    (g.R.Read.remaining c.args.input.now) (g.W.Write.contents c.args.out.now)
    (g.W.Write.contents c.tell_passed.new.out) c.tell_passed.result c.tell_passed.ensures.fault

pub returns-in-Ok-clause-drawn : goal.returns-in-Ok-clause-drawn
returns-in-Ok-clause-drawn g c =
    named_told g.T.Traces.opens g.T.File.Read.remaining c.args.drawing
    (g.R.Read.remaining c.args.input.now) (g.W.Write.contents c.args.out.now)
    (g.W.Write.contents c.draw_from.new.out) (g.W.Write.contents c.tell_passed.new.out)
    (file_of (chart_given c.args.words.now).file) c.in-Ok.count c.tell_passed.result
    (g.T.Traces.told c.args.machine.now) (g.T.Traces.told c.draw_from.new.machine)
    (g.T.Traces.told c.tell_passed.new.machine) c.in-Ok.ensures.drawn c.tell_passed.ensures.kept
    c.draw_from.ensures.untold c.tell_passed.ensures.told

pub returns-in-Ok-clause-undrawn : goal.returns-in-Ok-clause-undrawn
returns-in-Ok-clause-undrawn g c =
    named_unflushed g.T.Traces.opens g.T.File.Read.remaining c.args.drawing
    (g.R.Read.remaining c.args.input.now) (g.W.Write.contents c.args.out.now)
    (g.W.Write.contents c.draw_from.new.out) (g.W.Write.contents c.tell_passed.new.out)
    g.T.Traces.refuses (file_of (chart_given c.args.words.now).file) c.in-Ok.count
    c.tell_passed.result c.in-Ok.ensures.drawn c.tell_passed.ensures.fault

pub returns-in-Ok-clause-untold : goal.returns-in-Ok-clause-untold
returns-in-Ok-clause-untold g c =
    untold_trans c.tell_passed.result (g.T.Traces.told c.args.machine.now)
    (g.T.Traces.told c.draw_from.new.machine) (g.T.Traces.told c.tell_passed.new.machine)
    c.draw_from.ensures.untold c.tell_passed.ensures.untold

pub returns-in-Ok-clause-late : goal.returns-in-Ok-clause-late
returns-in-Ok-clause-late g c =
    output_late (chart_given c.args.words.now) c.args.drawing
    (g.R.Read.remaining c.args.input.now) (g.W.Write.contents c.args.out.now)
    (g.W.Write.contents c.tell_passed.new.out) c.tell_passed.result c.tell_passed.ensures.fault
