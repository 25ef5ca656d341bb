-- Shows that the pending transmission is lost as the line answers.
use Rattle.bsc_run.specs.Crossing.{streams_of}
use Rattle.bsc_run.proofs.Acting.{loses}
use Rattle.bsc_run.proofs.Causes.{told_cause}
use Rattle.bsc_run.proofs.actions.lose.Goals as goal

pub returns-clause-acts : goal.returns-clause-acts
returns-clause-acts g c =
    rw c.tell_lost.ensures
    (loses (streams_of g.S.Write.contents g.S.Read.remaining) c.args.number c.args.line.now
    c.carry.new.self c.args.cable.now (g.D.Write.contents c.args.trace.now)
    (g.D.Write.contents c.trace_lost.new.out) c.carry.result c.requires
    c.carry.ensures.does c.carry.ensures.line c.in_ok-trace_lost.ensures.traced)

pub returns-clause-cause : goal.returns-clause-cause
returns-clause-cause g c = rw c.tell_lost.ensures (told_cause c.args.number c.carry.result)
