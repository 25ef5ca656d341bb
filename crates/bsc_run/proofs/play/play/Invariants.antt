-- The events so far are performed, and the cable fits the line.
use Rattle.std.proofs.Common.{map, drop}
use Rattle.bsc_text.specs.Fronts.{Extends}
use Rattle.bsc_config.specs.Actions.{numbered}
use Rattle.bsc_run.specs.Crossing.{streams_of}
use Rattle.bsc_run.specs.Plays.{playing}
use Rattle.bsc_run.specs.Speaking.{Fits}
use Rattle.bsc_run.proofs.Playing.{HasPlayed}
use Rattle.bsc_run.proofs.play.play.Given as goal

abbrev pub invariant-steps : goal.invariant-steps
invariant-steps g l = record {
  fits : Fits l.line l.cable;
  played : HasPlayed (streams_of g.S.Write.contents g.S.Read.remaining) l.tracing
      (map numbered l.steps)
      (playing l.initial.line l.initial.cable (g.W.Write.contents l.initial.out)
      (g.D.Write.contents l.initial.trace))
      (drop l.step-index (map numbered l.steps))
      (playing l.line l.cable (g.W.Write.contents l.out)
      (g.D.Write.contents l.trace));
  stays : Extends (g.W.Write.contents l.initial.out) (g.W.Write.contents l.out);
}
