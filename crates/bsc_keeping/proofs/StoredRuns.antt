-- A run of a station that has a store is one of a station whose records are kept.
use Rattle.std.proofs.Common.{◌≡◌, ℕ, Bool, true, false, List, Option, Result, Ok, Err, ap, refl, sym}
use Rattle.std.proofs.Common.{◌∙◌, subst, inl, inr, is_ok}
use Rattle.bsc_bid.specs.declared.kept.KeptSender.{KeptSender}
use Rattle.bsc_bid.specs.declared.station.Station as station_of
use Rattle.bsc_bid.specs.declared.way.Way.{Way}
use Rattle.bsc_spool.specs.declared.fault.StoreFault.{StoreFault}
use Rattle.bsc_spool.specs.declared.store.Store as store_of
use Rattle.bsc_connections.specs.declared.awaited.LiveError.{LiveError}
use Rattle.bsc_station.specs.declared.party.Party as party_of
use Rattle.bsc_keeping.specs.Keeping.{KeepsStep}
use Rattle.bsc_keeping.specs.LiveRuns as live
use Rattle.bsc_keeping.specs.LiveRuns.{Course, Run, State, StepsOrWaits, course_of, goes, is_fine}
use Rattle.bsc_keeping.specs.LiveRuns.{unless_failed}
use Rattle.bsc_keeping.specs.Runs as runs
use Rattle.bsc_keeping.specs.Runs.{ForPrograms, KeptRun, KeptSteps, Moment}
use Rattle.bsc_keeping.specs.Stored.{KeepsOfferStored, KeepsStored, PrintsStored, live_kept}
use Rattle.bsc_keeping.specs.declared.keeper.Keeper.{Keeper}
use Rattle.bsc_keeping.specs.declared.stored.Stored.{Stored}
use Rattle.bsc_keeping.proofs.StoreSteps.{kept_step}

module _ {S K V Z : Type 0} (station : station_of.Ghosts S) (party : party_of.Ghosts S Z)
    (kept_at : S → ℕ → ℕ → Option KeptSender) (store : store_of.Ghosts K)
    (printed : V → ℕ → Option ℕ) (prints : S → V → V → Type 0) (forgets_sent : S → S → Type 0)
    (forgets_arrived : S → ℕ → ℕ → S → Type 0) (polls : S → ℕ → Bool → S → Type 0)
    (does : ForPrograms S) where
  abbrev Keeps : Stored K V → S → Result (Unit {0}) LiveError → Stored K V → Type 0
  Keeps = KeepsStored party kept_at store printed

  abbrev pub StoredRun : Course → State S (Stored K V) → State S (Stored K V) → Type 0
  StoredRun =
      Run station Keeps (KeepsOfferStored store)
      (λ old now new. PrintsStored (prints now) old new) forgets_sent forgets_arrived polls does

  abbrev Kept : Bool → Moment S K → Moment S K → Type 0
  Kept = KeptRun station party kept_at store forgets_sent forgets_arrived polls does

  abbrev at : State S (Stored K V) → Moment S K
  at s = record { station = s.station; keeper = s.kept.keeper }

  -- the keeper of what keeps is another one
  with_keeper : (fine : Bool) (first : Moment S K) (now : S) (keeper other : Keeper K) → other ≡ keeper
      → Kept fine first (record { station = now; keeper = keeper })
      → Kept fine first (record { station = now; keeper = other })
  with_keeper fine first now keeper other is =
      subst (λ (k : Keeper K). Kept fine first (record { station = now; keeper = k })) (sym is)

  -- a run that has not failed
  as_fine : (course : Course) (first now : Moment S K) → is_fine course ≡ true
      → Kept (is_fine course) first now → Kept true first now
  as_fine course first now is = subst (λ fine. Kept fine first now) is

  still : (course : Course) (first now : Moment S K) → is_fine course ≡ true → Kept true first now
      → Kept (is_fine course) first now
  still course first now is = subst (λ fine. Kept fine first now) (sym is)

  by_step : (first : Moment S K) (old new : State S (Stored K V)) (result : Result Bool LiveError)
      → Kept true first (at old) → StepsOrWaits station Keeps old result new
      → Kept (is_fine (course_of result)) first (at new)
  by_step first old new (Ok true) run (inl (sent, step)) =
      runs.attended run
      (runs.one_more (runs.begun refl)
      (kept_step party kept_at store printed station sent true old new step))
  by_step first old new (Ok false) run (inl (sent, step)) =
      runs.attended run
      (runs.one_more (runs.begun refl)
      (kept_step party kept_at store printed station sent true old new step))
  by_step first old new (Err error) run (inl (sent, step)) =
      runs.attended run
      (runs.failed (runs.begun refl)
      (kept_step party kept_at store printed station sent false old new step))
  by_step first old new (Ok goes_on) run (inr (same, clash)) = absurd cc
  by_step first old new (Err error) run (inr (same, is)) =
      subst (λ (s : State S (Stored K V)). Kept false first (at s)) (sym same) (runs.stopped run)

  by_keeping : (course : Course) (first : Moment S K) (now : S) (old new : Stored K V)
      (kept : Result (Unit {0}) StoreFault) (result : Result (Unit {0}) LiveError)
      → result ≡ live_kept kept → is_fine course ≡ true
      → Kept true first (record { station = now; keeper = old.keeper })
      → KeepsStep party kept_at store (printed old.printer) now kept old.keeper new.keeper
      → Kept (is_fine (unless_failed result course)) first
      (record { station = now; keeper = new.keeper })
  by_keeping course first now old new (Ok done) result is fine run step =
      subst
      (λ (r : Result (Unit {0}) LiveError).
      Kept (is_fine (unless_failed r course)) first (record { station = now; keeper = new.keeper }))
      (sym is) (still course first _ fine (runs.kept run step))
  by_keeping course first now old new (Err fault) result is fine run step =
      subst
      (λ (r : Result (Unit {0}) LiveError).
      Kept (is_fine (unless_failed r course)) first (record { station = now; keeper = new.keeper }))
      (sym is) (runs.not_kept run step)

  by_release : (first : Moment S K) (before now : S) (terminal : ℕ) (way : Way) (count : ℕ)
      (old new : Stored K V) (kept : Result (Unit {0}) StoreFault)
      (result : Result (Unit {0}) LiveError) → result ≡ live_kept kept
      → Kept true first (record { station = before; keeper = old.keeper })
      → does.releases before terminal way count now
      → KeepsStep party kept_at store (printed old.printer) now kept old.keeper new.keeper
      → Kept (is_fine (unless_failed result goes)) first
      (record { station = now; keeper = new.keeper })
  by_release first before now terminal way count old new (Ok done) result is run releases step =
      subst
      (λ (r : Result (Unit {0}) LiveError).
      Kept (is_fine (unless_failed r goes)) first (record { station = now; keeper = new.keeper }))
      (sym is) (runs.released run releases step)
  by_release first before now terminal way count old new (Err fault) result is run releases step =
      subst
      (λ (r : Result (Unit {0}) LiveError).
      Kept (is_fine (unless_failed r goes)) first (record { station = now; keeper = new.keeper }))
      (sym is) (runs.not_released run releases step)

  pub kept_run : (course : Course) (first now : State S (Stored K V)) → StoredRun course first now
      → Kept (is_fine course) (at first) (at now)
  kept_run course first now (live.begins same) =
      runs.begins (ap (λ (s : State S (Stored K V)). at s) same)
  kept_run course first now (live.stepped {old = old} result run step) =
      by_step (at first) old now result (kept_run goes first old run) step
  kept_run course first now (live.printed {old = old} {kept = kept} fine run prints) =
      with_keeper (is_fine course) (at first) old.station old.kept.keeper kept.keeper prints.keeper
      (kept_run course first old run)
  kept_run course first now (live.forgot_sent {old = old} fine run forgets) =
      still course (at first) (at now) fine
      (runs.forgot_sent (as_fine course (at first) (at old) fine (kept_run course first old run))
      forgets)
  kept_run course first now (live.forgot_arrived {old = old} fine run forgets) =
      still course (at first) (at now) fine
      (runs.forgot_arrived (as_fine course (at first) (at old) fine (kept_run course first old run))
      forgets)
  kept_run course first now (live.polled {old = old} fine run is) =
      still course (at first) (at now) fine
      (runs.polled (as_fine course (at first) (at old) fine (kept_run course first old run)) is)
  kept_run course first now
      (live.kept_again {course = before} {old = old} result {kept = kept} fine run keeps) =
      by_keeping before (at first) old.station old.kept kept keeps.kept result keeps.answer fine
      (as_fine before (at first) (at old) fine (kept_run before first old run)) keeps.step
  kept_run course first now (live.offered {old = old} {kept = kept} run keeps offers) =
      runs.offered (kept_run goes first old run) keeps.offer offers
  kept_run course first now (live.not_offered {old = old} way {kept = kept} run asks keeps) =
      runs.not_offered way (kept_run goes first old run) asks keeps.offer
  kept_run course first now
      (live.released {old = old} {terminal = terminal} {way = way} {count = count} result
      {kept = kept} {new = new} run releases keeps) =
      by_release (at first) old.station new terminal way count old.kept kept keeps.kept result
      keeps.answer (kept_run goes first old run) releases keeps.step
  kept_run course first now (live.set {old = old} run sets) =
      runs.set (kept_run goes first old run) sets
  kept_run course first now (live.told_to_end run) = kept_run goes first now run
  kept_run course first now (live.stopped run) = runs.stopped (kept_run goes first now run)
