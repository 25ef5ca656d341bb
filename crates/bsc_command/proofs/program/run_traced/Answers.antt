-- Shows that the run says the same of some writer of its trace.
use Rattle.bsc_run.specs.Errors.{IsEarly}
use Rattle.bsc_run.specs.Running.{paths_of}
use Rattle.bsc_command.proofs.Traced.{done_traced, failed_traced, first_early}
use Rattle.bsc_command.proofs.program.run_traced.Goals as goal

pub returns-clause-early : goal.returns-clause-early
returns-clause-early g c = first_early _ _ IsEarly c.run.result c.run.ensures.early

pub returns-clause-checked : goal.returns-clause-checked
returns-clause-checked g c = λ h. (c.run.ensures.checked h).0

pub returns-clause-done : goal.returns-clause-done
returns-clause-done g c =
    done_traced g.H.Stream.Write.contents g.H.Stream.Read.remaining
    g.H.Trace.Write.contents g.H.Network.traces c.args.words.check c.args.words.trace (paths_of c.args.words (g.R.Read.remaining c.args.input.now))
    (g.W.Write.contents c.args.out.now) (g.W.Write.contents c.run.new.out)
    c.trace-trace.result c.run.new.trace c.trace-trace.ensures
    c.run.result c.run.ensures.done

pub returns-clause-failed : goal.returns-clause-failed
returns-clause-failed g c =
    failed_traced g.H.Stream.Write.contents g.H.Stream.Read.remaining
    g.H.Trace.Write.contents g.H.Network.traces c.args.words.check c.args.words.trace (paths_of c.args.words (g.R.Read.remaining c.args.input.now))
    (g.W.Write.contents c.args.out.now) (g.W.Write.contents c.run.new.out)
    c.trace-trace.result c.run.new.trace c.trace-trace.ensures
    c.run.result c.run.ensures.failed
