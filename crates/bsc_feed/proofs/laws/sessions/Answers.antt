-- The sessions of a client, from the lemmas about its steps.
use Rattle.bsc_feed.specs.Answering.{serving_of}
use Rattle.bsc_feed.proofs.Obeying.{obeys_each_line}
use Rattle.bsc_feed.proofs.Steps.{changes_by_lines}
use Rattle.bsc_feed.proofs.Telling.{tells_each_once}
use Rattle.bsc_feed.proofs.laws.sessions.Goals as goal

pub returns-clause-lines : goal.returns-clause-lines
returns-clause-lines g c =
    let served = g.S.Served in
    obeys_each_line g.S.Party (serving_of served)

pub returns-clause-quiet : goal.returns-clause-quiet
returns-clause-quiet g c =
    let served = g.S.Served in
    changes_by_lines g.S.Party (serving_of served)

pub returns-clause-arrivals : goal.returns-clause-arrivals
returns-clause-arrivals g c =
    let served = g.S.Served in
    tells_each_once g.S.Party (serving_of served)
