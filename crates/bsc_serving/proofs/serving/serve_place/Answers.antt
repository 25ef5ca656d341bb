-- Shows that where no program is served the station is asked nothing.
use Rattle.bsc_feed.specs.Answering.{serving_of}
use Rattle.bsc_serving.proofs.Asked.{not_served}
use Rattle.bsc_serving.proofs.serving.serve_place.Goals as goal

pub returns-in_default : goal.returns-in_default
returns-in_default g c =
    let served = g.F.Served in
    not_served g.F.Party (serving_of served) g.F.Failing.fails c.requires

pub returns-in_default-at : goal.returns-in_default-at
returns-in_default-at g c =
    let served = g.F.Served in
    not_served g.F.Party (serving_of served) g.F.Failing.fails c.requires
