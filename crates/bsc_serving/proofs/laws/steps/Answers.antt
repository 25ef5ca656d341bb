-- The steps of a session, from the lemmas about them.
use Rattle.bsc_feed.specs.Answering.{serving_of}
use Rattle.bsc_serving.proofs.Steps.{steps_of_clients}
use Rattle.bsc_serving.proofs.laws.steps.Goals as goal

pub returns : goal.returns
returns g c =
    let served = g.S.Served in
    steps_of_clients g.S.Party (serving_of served) g.T.Read g.T.Write
