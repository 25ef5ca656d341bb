-- Shows that each step of the session is one that asks the station, and what it leaves.
use Rattle.std.proofs.Common.{sym}
use Rattle.bsc_feed.specs.Answering.{serving_of}
use Rattle.bsc_serving.proofs.Asked.{not_served, served_by_step}
use Rattle.bsc_serving.proofs.serving.serve_session.Goals as goal

pub steps-init : goal.steps-init
steps-init g c =
    let served = g.F.Served in
    not_served g.F.Party (serving_of served) g.F.Failing.fails c.requires

pub returns-in-Some : goal.returns-in-Some
returns-in-Some g c =
    let served = g.F.Served in
    served_by_step g.F.Party (serving_of served) g.F.Failing.fails g.T.Read g.T.Write
    c.steps.session c.step-step.result c.step-step.new.self c.steps.invariant c.step-step.ensures
    (sym c.in-Some.ensures)

pub returns-then-ne : goal.returns-then-ne
returns-then-ne g c =
    let served = g.F.Served in
    served_by_step g.F.Party (serving_of served) g.F.Failing.fails g.T.Read g.T.Write
    c.steps.session c.step-step.result c.step-step.new.self c.steps.invariant c.step-step.ensures
    (sym c.in_default.ensures)

pub steps-preserved : goal.steps-preserved
steps-preserved g c =
    let served = g.F.Served in
    served_by_step g.F.Party (serving_of served) g.F.Failing.fails g.T.Read g.T.Write
    c.steps.session c.step-step.result c.step-step.new.self c.steps.invariant c.step-step.ensures
    (sym c.in_default.ensures)
