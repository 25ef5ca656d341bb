-- Shows that the run of a station goes on in a turn of its programs.
use Rattle.std.proofs.Common.{refl}
use Rattle.bsc_keeping.specs.LiveRuns.{begins}
use Rattle.bsc_serving.proofs.Turns.{turn_runs}
use Rattle.bsc_serving.proofs.serving.Serving.serve.Goals as goal

pub returns : goal.returns
returns g c =
    turn_runs g.S.Station g.S.LineStation g.Q.Keeps g.V.Presences.shows g.V.Presences.obeys _ _ _ _ _ _
    _ c.serve_all_places.ensures (begins refl)
