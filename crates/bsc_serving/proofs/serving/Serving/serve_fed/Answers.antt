-- Shows that the programs ask the same station all the time.
use Rattle.bsc_serving.proofs.SameFed.{asked_same}
use Rattle.bsc_serving.proofs.serving.Serving.serve_fed.Goals as goal

pub returns-clause-same_station : goal.returns-clause-same_station
returns-clause-same_station g c =
    (asked_same _ g.S.LineStation g.Q.Keeps g.V.Presences.shows g.V.Presences.obeys
    c.serve_all.ensures.is_asked).station

pub returns-clause-same_keeps : goal.returns-clause-same_keeps
returns-clause-same_keeps g c =
    (asked_same _ g.S.LineStation g.Q.Keeps g.V.Presences.shows g.V.Presences.obeys
    c.serve_all.ensures.is_asked).keeps

pub returns-clause-same_watch : goal.returns-clause-same_watch
returns-clause-same_watch g c =
    (asked_same _ g.S.LineStation g.Q.Keeps g.V.Presences.shows g.V.Presences.obeys
    c.serve_all.ensures.is_asked).watch
