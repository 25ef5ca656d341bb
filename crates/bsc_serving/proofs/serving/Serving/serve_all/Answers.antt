-- Shows that the station is asked by the programs at one place after another.
use Rattle.bsc_feed.specs.Answering.{serving_of}
use Rattle.bsc_serving.proofs.Asked.{not_served, served_after}
use Rattle.bsc_serving.proofs.serving.Serving.serve_all.Goals as goal

pub turns-init : goal.turns-init
turns-init g c =
    let served = g.F.Served in
    not_served g.F.Party (serving_of served) g.F.Failing.fails c.requires

pub returns-in-Err : goal.returns-in-Err
returns-in-Err g c =
    let served = g.F.Served in
    served_after g.F.Party (serving_of served) g.F.Failing.fails
    c.turns.invariant c.in-Err.ensures

pub turns-preserved : goal.turns-preserved
turns-preserved g c =
    let served = g.F.Served in
    served_after g.F.Party (serving_of served) g.F.Failing.fails
    c.turns.invariant c.in-Ok.ensures

pub returns-then-left-eq0 : goal.returns-then-left-eq0
returns-then-left-eq0 g c =
    let served = g.F.Served in
    served_after g.F.Party (serving_of served) g.F.Failing.fails
    c.turns.invariant c.in-Ok.ensures
