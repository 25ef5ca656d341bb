-- What a station sends that has a store, it sends after all that it has changed is kept.
use Rattle.std.proofs.Common.{Ok, ap, inl, inr, refl}
use Rattle.bsc_keeping.specs.LiveRuns.{state_of}
use Rattle.bsc_keeping.proofs.AllKept.{all_throughout}
use Rattle.bsc_keeping.proofs.Kept.{one_step, shown_by}
use Rattle.bsc_keeping.proofs.StoreSteps.{changed, kept_step, survives}
use Rattle.bsc_keeping.specs.Stored.{KeepsStored}
use Rattle.bsc_keeping.proofs.laws.kept_before_sent.Goals as goal

pub returns-clause-sent : goal.returns-clause-sent
returns-clause-sent g c old new happened result steps =
    let shown =
    shown_by (KeepsStored g.S.Party g.S.LineStation.kept_at g.K.Store g.V.Prints.printed) g.M.Monitor.is_told
    g.S.Station g.R.Read g.W.Write g.F.Framing _ _ _ g.T.Waiter old new happened result steps in (
      survives g.S.Party g.S.LineStation.kept_at g.K.Store g.V.Prints.printed new.station
          old.monitor.kept.now new.monitor.kept.now shown.always,
      λ some.
          changed g.S.Party g.S.LineStation.kept_at g.K.Store g.V.Prints.printed new.station
          old.monitor.kept.now new.monitor.kept.now (shown.sent some),
    )

pub returns-clause-changed : goal.returns-clause-changed
returns-clause-changed g c old new happened goes_on steps =
    let shown =
    shown_by (KeepsStored g.S.Party g.S.LineStation.kept_at g.K.Store g.V.Prints.printed) g.M.Monitor.is_told
    g.S.Station g.R.Read g.W.Write g.F.Framing _ _ _ g.T.Waiter old new happened (Ok goes_on) steps in
    elim (shown.accepted_step goes_on refl) [
      | inl kept ↦ inl (changed g.S.Party g.S.LineStation.kept_at g.K.Store g.V.Prints.printed new.station
          old.monitor.kept.now new.monitor.kept.now kept)
      | inr same ↦ inr (same.0, ap (λ s. s.keeper) same.1)
    ]

pub returns-clause-throughout : goal.returns-clause-throughout
returns-clause-throughout g c =
    all_throughout g.S.Party g.S.LineStation.kept_at g.K.Store g.V.Prints.printed _
    (returns-clause-changed g c)

pub returns-clause-steps : goal.returns-clause-steps
returns-clause-steps g c old new happened result steps =
    kept_step g.S.Party g.S.LineStation.kept_at g.K.Store g.V.Prints.printed g.S.Station _ _
    (state_of old) (state_of new)
    (one_step (KeepsStored g.S.Party g.S.LineStation.kept_at g.K.Store g.V.Prints.printed)
    g.M.Monitor.is_told g.S.Station g.R.Read g.W.Write g.F.Framing _ _ _ g.T.Waiter old new happened
    result steps)
