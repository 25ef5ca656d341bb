-- A step of the station is one whose changes are kept.
use Rattle.bsc_keeping.proofs.Kept.{step_or_wait}
use Rattle.bsc_keeping.proofs.Names.{names_in_step}
use Rattle.bsc_keeping.proofs.stepping.step_kept.Goals as goal

pub returns-clause-steps : goal.returns-clause-steps
returns-clause-steps g c =
    step_or_wait g.Q.Keeps.keeps g.M.Monitor.is_told g.S.Station g.R.Read g.W.Write g.F.Framing _ _ _
    g.T.Waiter _ _ _ c.step.ensures.steps

pub returns-clause-same_watch : goal.returns-clause-same_watch
returns-clause-same_watch g c =
    (names_in_step g.Q.Keeps.keeps g.M.Monitor.is_told g.S.Station g.R.Read g.W.Write g.F.Framing _ _ _
    g.T.Waiter _ _ _ c.step.ensures.steps).watch

pub returns-clause-same_kept : goal.returns-clause-same_kept
returns-clause-same_kept g c =
    (names_in_step g.Q.Keeps.keeps g.M.Monitor.is_told g.S.Station g.R.Read g.W.Write g.F.Framing _ _ _
    g.T.Waiter _ _ _ c.step.ensures.steps).kept
