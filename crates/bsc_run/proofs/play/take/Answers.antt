-- Shows that the lines for what the event is and for what it changed are written, and what is
-- pending after it.
use Rattle.bsc_config.specs.Actions.{event_in}
use Rattle.bsc_run.proofs.Standings.{are_on, event_traced}
use Rattle.bsc_run.proofs.play.take.Goals as goal

pub trace_changes-requires : goal.trace_changes-requires
trace_changes-requires g c =
    let done = c.in-Ok.ensures.acts.accepted.accepts in
    are_on c.args.tracing c.in_ok-before.before.channels.items done.event c.args.line.now
    c.act.new.line c.in_ok-before.ensures.channels done.done

pub returns-in-Ok-clause-takes : goal.returns-in-Ok-clause-takes
returns-in-Ok-clause-takes g c =
    let acted = c.in-Ok.ensures.acts in
    record {
      accepted = record {
        accepts = acted.accepted.accepts;
        traced = event_traced c.args.tracing c.args.step.now.line c.traced_number-number.result
            (event_in c.args.step.now.action) acted.accepted.accepts.event c.args.line.now
            c.act.new.line c.in_ok-before.before.channels.items c.in_ok-before.before.trusted
            (g.D.Write.contents c.args.trace.now) (g.D.Write.contents c.act.new.trace)
            (g.D.Write.contents c.trace_changes.new.out) c.traced_number-number.ensures
            c.in_ok-before.ensures.channels c.in_ok-before.ensures.trusted acted.accepted.traced
            c.in_ok-trace_changes-in-Ok.ensures.traced;
      };
      fits = acted.fits;
      printed = c.in_ok-write_after-in-Ok.ensures.ok;
      refused = λ line why q. cc;
    }
