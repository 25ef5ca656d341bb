-- What a station changes that has a store is kept there before its answer is sent.
use Rattle.std.proofs.Common.{◌≡◌, ◌≢◌, ℕ, Bool, true, false, List, [], Option, Result, Ok, Err}
use Rattle.std.proofs.Common.{ap, refl, sym, ◌∙◌, subst, ◌⊎◌, inl, inr, is_ok}
use Rattle.bsc_bid.specs.declared.kept.KeptSender.{KeptSender}
use Rattle.bsc_bid.specs.declared.station.Station as station_of
use Rattle.bsc_spool.specs.declared.fault.StoreFault.{StoreFault}
use Rattle.bsc_spool.specs.declared.store.Store as store_of
use Rattle.bsc_connections.specs.declared.awaited.LiveError.{LiveError}
use Rattle.bsc_station.specs.declared.party.Party as party_of
use Rattle.bsc_keeping.specs.Keeping.{KeepsChanged, KeepsStep, SurvivesAll, step_of}
use Rattle.bsc_keeping.specs.LiveRuns.{State, Step}
use Rattle.bsc_keeping.specs.Runs.{KeptStep, Moment}
use Rattle.bsc_keeping.specs.Stored.{KeepsStored, live_kept}
use Rattle.bsc_keeping.specs.declared.keeper.Keeper.{Keeper}
use Rattle.bsc_keeping.specs.declared.stored.Stored.{Stored}

module _ {S K V Z : Type 0} (party : party_of.Ghosts S Z)
    (kept_at : S → ℕ → ℕ → Option KeptSender) (store : store_of.Ghosts K)
    (printed : V → ℕ → Option ℕ) where
  abbrev Keeps : Stored K V → S → Result (Unit {0}) LiveError → Stored K V → Type 0
  Keeps = KeepsStored party kept_at store printed

  -- A crash leaves what was kept before, or all of the step.
  pub survives : (station : S) (old new : Stored K V)
      → (new ≡ old) ⊎ ((result : Result (Unit {0}) LiveError) × Keeps old station result new)
      → SurvivesAll store (step_of party kept_at store (printed old.printer) station old.keeper)
      old.keeper.store new.keeper.store
  survives station old new (inl same) = inl (ap (λ (s : Stored K V). s.keeper.store) same)
  survives station old new (inr (result, keeps)) = keeps.step.commits.crash

  changed_by : (kept : Result (Unit {0}) StoreFault) (done : Unit {0}) (station : S)
      (old new : Stored K V) → Ok done ≡ live_kept kept
      → KeepsStep party kept_at store (printed old.printer) station kept old.keeper new.keeper
      → KeepsChanged party kept_at store (printed old.printer) station old.keeper new.keeper
  changed_by (Ok it) done station old new is step =
      record { changes = step.commits.kept; sending = step.sending; receiving = step.receiving }
  changed_by (Err fault) done station old new is step =
      let clash : Ok done ≡ Err _ = is in absurd cc

  -- What is kept is all that the station has changed.
  pub changed : (station : S) (old new : Stored K V)
      → (done : Unit {0}) × Keeps old station (Ok done) new
      → KeepsChanged party kept_at store (printed old.printer) station old.keeper new.keeper
  changed station old new (done, keeps) =
      changed_by keeps.kept done station old new keeps.answer keeps.step

  kept_or_same : (old new : State S (Stored K V))
      → ((done : Unit {0}) × Keeps old.kept new.station (Ok done) new.kept)
      ⊎ ((new.station ≡ old.station) × (new.kept ≡ old.kept))
      → KeepsChanged party kept_at store (printed old.kept.printer) new.station old.kept.keeper
      new.kept.keeper
      ⊎ ((new.station ≡ old.station) × (new.kept.keeper ≡ old.kept.keeper))
  kept_or_same old new (inl kept) = inl (changed new.station old.kept new.kept kept)
  kept_or_same old new (inr (station, kept)) =
      inr (station, ap (λ (s : Stored K V). s.keeper) kept)

  -- A step of the station is one whose changes are kept.
  pub kept_step : (station : station_of.Ghosts S) (sent : List (List ℕ)) (goes_on : Bool)
      (old new : State S (Stored K V)) → Step station Keeps sent goes_on old new
      → KeptStep station party kept_at store sent goes_on
      (record { station = old.station; keeper = old.kept.keeper })
      (record { station = new.station; keeper = new.kept.keeper })
  kept_step station sent goes_on old new step =
      record {
        event = step.event;
        printed = printed old.kept.printer;
        crash = survives new.station old.kept new.kept step.left;
        before_sent = λ some. changed new.station old.kept new.kept (step.before_sent some);
        before_next = λ fine. kept_or_same old new (step.before_next fine);
      }
