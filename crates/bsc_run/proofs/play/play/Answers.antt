-- Shows that the loop performs the events in order, up to the first that fails.
use Rattle.std.proofs.Common.{map, drop, ◌+◌, arith}
use Rattle.bsc_text.proofs.Fronts.{extends_same, extends_trans}
use Rattle.bsc_config.specs.Actions.{numbered}
use Rattle.bsc_run.specs.Crossing.{streams_of}
use Rattle.bsc_run.specs.Plays.{playing}
use Rattle.bsc_run.proofs.Causes.{has_event_cause}
use Rattle.bsc_run.proofs.Playing.{drop_map, drop_map_all, has_played_none, has_played_more}
use Rattle.bsc_run.proofs.Playing.{has_played_all, has_played_stop}
use Rattle.bsc_run.proofs.play.play.Goals as goal

pub steps-init : goal.steps-init
steps-init g c = record {
  fits = c.requires;
  played =
      has_played_none (streams_of g.S.Write.contents g.S.Read.remaining) c.args.tracing (map numbered c.args.steps.now)
      (playing c.args.line.now c.args.cable.now (g.W.Write.contents c.args.out.now)
      (g.D.Write.contents c.args.trace.now));
  stays = extends_same _;
}

pub returns-in-Err-clause-stays : goal.returns-in-Err-clause-stays
returns-in-Err-clause-stays g c =
    extends_trans _ _ _ c.steps.invariant.stays c.take.ensures.stays

pub returns-in-Err-clause-whole : goal.returns-in-Err-clause-whole
returns-in-Err-clause-whole g c =
    let all = map numbered c.args.steps.now in
    let next =
    drop_map numbered c.args.steps.now c.steps.step-index c.step-item.result (omega arith)
    c.step-item.is in
    has_played_stop (streams_of g.S.Write.contents g.S.Read.remaining) c.args.tracing all
    (playing c.args.line.now c.args.cable.now (g.W.Write.contents c.args.out.now)
    (g.D.Write.contents c.args.trace.now))
    (numbered c.step-item.result) (drop (c.steps.step-index + 1) all)
    (playing c.steps.line c.steps.cable (g.W.Write.contents c.steps.out)
    (g.D.Write.contents c.steps.trace))
    (playing c.take.new.line c.take.new.cable (g.W.Write.contents c.take.new.out)
    (g.D.Write.contents c.take.new.trace))
    c.in-Err.error (rw next at c.steps.invariant.played) c.in-Err.ensures.takes

pub returns-in-Err-clause-cause : goal.returns-in-Err-clause-cause
returns-in-Err-clause-cause g c =
    has_event_cause numbered c.args.tracing c.args.steps.now c.take.new.cable.fault
    c.steps.step-index c.step-item.result c.in-Err.error (omega arith) c.step-item.is
    c.in-Err.ensures.cause

pub steps-preserved : goal.steps-preserved
steps-preserved g c =
    let all = map numbered c.args.steps.now in
    let next =
    drop_map numbered c.args.steps.now c.steps.step-index c.step-item.result (omega arith)
    c.step-item.is in
    record {
      fits = c.in_default.ensures.takes.fits;
      played =
          has_played_more (streams_of g.S.Write.contents g.S.Read.remaining) c.args.tracing all
          (playing c.args.line.now c.args.cable.now (g.W.Write.contents c.args.out.now)
          (g.D.Write.contents c.args.trace.now))
          (numbered c.step-item.result) (drop (c.steps.step-index + 1) all)
          (playing c.steps.line c.steps.cable (g.W.Write.contents c.steps.out)
          (g.D.Write.contents c.steps.trace))
          (playing c.take.new.line c.take.new.cable (g.W.Write.contents c.take.new.out)
          (g.D.Write.contents c.take.new.trace))
          (rw next at c.steps.invariant.played) c.in_default.ensures.takes.fits.line
          c.in_default.ensures.takes.accepted c.in_default.ensures.takes.printed;
      stays = extends_trans _ _ _ c.steps.invariant.stays c.take.ensures.stays;
    }

pub returns-clause-whole : goal.returns-clause-whole
returns-clause-whole g c =
    let all = map numbered c.args.steps.now in
    let end = drop_map_all numbered c.args.steps.now c.steps.step-index (omega arith) in
    has_played_all (streams_of g.S.Write.contents g.S.Read.remaining) c.args.tracing all
    (playing c.args.line.now c.args.cable.now (g.W.Write.contents c.args.out.now)
    (g.D.Write.contents c.args.trace.now))
    (playing c.steps.line c.steps.cable (g.W.Write.contents c.steps.out)
    (g.D.Write.contents c.steps.trace))
    (rw end at c.steps.invariant.played)
