-- Shows that the report follows the run, and that the run is a run of the line.
use Rattle.std.proofs.Common.{map, Ok, Err}
use Rattle.bsc_text.proofs.Fronts.{extends_trans}
use Rattle.bsc_run.specs.Crossing.{streams_of}
use Rattle.bsc_run.specs.declared.error.RunError.TheVariants.{Refused}
use Rattle.bsc_config.specs.Actions.{numbered}
use Rattle.bsc_run.specs.Plays.{playing}
use Rattle.bsc_run.proofs.Causes.{tells_line}
use Rattle.bsc_run.proofs.Playing.{runs_reported}
use Rattle.bsc_run.proofs.play.run_on.Goals as goal

pub returns-in_ok-write_report-in-Ok-clause-whole : goal.returns-in_ok-write_report-in-Ok-clause-whole
returns-in_ok-write_report-in-Ok-clause-whole g c =
    let streams = (streams_of g.S.Write.contents g.S.Read.remaining) in
    let old = playing c.args.line.now c.args.cable.now (g.W.Write.contents c.args.out.now)
    (g.D.Write.contents c.args.trace.now) in
    let new =
    playing c.play.new.line c.play.new.cable (g.W.Write.contents c.play.new.out)
    (g.D.Write.contents c.play.new.trace) in
    let holds = g.W.Write.contents c.write_report.new.out in
    runs_reported
    (record {
      keeps = c.every_run.ensures;
      headline = c.headline.ensures;
      visit = c.visit.ensures;
      round = c.round.ensures;
    })
    streams c.args.tracing (map numbered c.args.steps.now) old (Ok tt) new holds c.requires.line
    c.in-Ok.ensures.whole c.in_ok-write_report-in-Ok.ensures.ok

pub returns-in_ok-write_report-in-Err-Refused-clause-whole : goal.returns-in_ok-write_report-in-Err-Refused-clause-whole
returns-in_ok-write_report-in-Err-Refused-clause-whole g c =
    let played = rw c.in-Err-Refused.field-0-is at c.in-Err-Refused.ensures.whole in
    let streams = (streams_of g.S.Write.contents g.S.Read.remaining) in
    let old = playing c.args.line.now c.args.cable.now (g.W.Write.contents c.args.out.now)
    (g.D.Write.contents c.args.trace.now) in
    let new =
    playing c.play.new.line c.play.new.cable (g.W.Write.contents c.play.new.out)
    (g.D.Write.contents c.play.new.trace) in
    let holds = g.W.Write.contents c.write_report-in-Err-Refused.new.out in
    let result = Err (Refused c.in-Err-Refused.number c.in-Err-Refused.why) in
    runs_reported
    (record {
      keeps = c.every_run.ensures;
      headline = c.headline.ensures;
      visit = c.visit.ensures;
      round = c.round.ensures;
    })
    streams c.args.tracing (map numbered c.args.steps.now) old result new holds c.requires.line played
    c.in_ok-write_report-in-Err-Refused.ensures.ok

pub returns-in_ok-write_report-in-Ok-clause-stays : goal.returns-in_ok-write_report-in-Ok-clause-stays
returns-in_ok-write_report-in-Ok-clause-stays g c =
    extends_trans _ _ _ c.play.ensures.stays c.write_report.ensures.stays

pub returns-in_err-write_report-in-Ok-clause-stays : goal.returns-in_err-write_report-in-Ok-clause-stays
returns-in_err-write_report-in-Ok-clause-stays g c =
    extends_trans _ _ _ c.play.ensures.stays c.write_report.ensures.stays

pub returns-in_ok-write_report-in-Err-Refused-clause-stays : goal.returns-in_ok-write_report-in-Err-Refused-clause-stays
returns-in_ok-write_report-in-Err-Refused-clause-stays g c =
    extends_trans _ _ _ c.play.ensures.stays c.write_report-in-Err-Refused.ensures.stays

pub returns-in_err-write_report-in-Err-Refused-clause-stays : goal.returns-in_err-write_report-in-Err-Refused-clause-stays
returns-in_err-write_report-in-Err-Refused-clause-stays g c =
    extends_trans _ _ _ c.play.ensures.stays c.write_report-in-Err-Refused.ensures.stays

pub returns-in-Err-clause-stays : goal.returns-in-Err-clause-stays
returns-in-Err-clause-stays g c = c.in-Err.ensures.stays

pub returns-in-Err-clause-socket : goal.returns-in-Err-clause-socket
returns-in-Err-clause-socket g c =
    tells_line c.args.tracing (map numbered c.args.steps.now) c.play.new.cable.fault c.in-Err.fault
    c.in-Err.ensures.cause
