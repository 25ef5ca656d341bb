-- What it means that what a station has changed is kept.
use Rattle.std.specs.Prelude.{◌≡◌, ◌⊎◌, ℕ, Bool, List, [], ◌∷◌, Option, Some, Result, Ok, Err}
use Rattle.std.specs.Prelude.{OnOk, OnErr, IfErr}
use Rattle.bsc_bid.specs.declared.kept.KeptSender.{KeptSender}
use Rattle.bsc_spool.specs.declared.change.Change.{Change}
use Rattle.bsc_spool.specs.declared.fault.StoreFault.{StoreFault}
use Rattle.bsc_spool.specs.declared.store.Store as store_of
use Rattle.bsc_station.specs.declared.party.Party as party_of
use Rattle.bsc_keeping.specs.Changes.{changes_of, sending_now, receiving_now}
use Rattle.bsc_keeping.specs.declared.keeper.Keeper.{Keeper}

-- What is known of a store.
module _ {K : Type 0} (store : store_of.Ghosts K) where
  -- These changes were kept, all at once and in order. Where there is none, nothing was done.
  abbrev pub KeepsAll : List Change → K → K → Type 0
  KeepsAll [] old new = new ≡ old
  KeepsAll (change ∷ changes) old new = store.keeps (change ∷ changes) old new

  -- A crash at any moment leaves what it could leave before, or what was kept with all of these
  -- changes.
  abbrev pub SurvivesAll : List Change → K → K → Type 0
  SurvivesAll changes old new = (new ≡ old) ⊎ store.survives changes old new

  -- These changes were kept, or nothing was.
  pub record Commits (changes : List Change) (result : Result (Unit {0}) StoreFault) (old new : K)
      : Type 0 where
    pub kept : OnOk result (KeepsAll changes old new)
    pub unchanged : OnErr result ((new ≡ old) ⊎ store.stays old new)
    pub crash : SurvivesAll changes old new

-- What is known of a station with memory of type Z, what it says of the channels on which it sends,
-- and what is known of its store.
module _ {S K Z : Type 0} (party : party_of.Ghosts S Z) (kept_at : S → ℕ → ℕ → Option KeptSender)
    (store : store_of.Ghosts K) where
  -- All that the station has changed since what is kept, where this many records were printed of
  -- each channel.
  abbrev pub step_of : (ℕ → Option ℕ) → S → Keeper K → List Change
  step_of printed station keeper =
      changes_of party station printed kept_at keeper.sending.items keeper.receiving.items

  -- All that the station has changed is kept at once, or nothing is.
  pub record KeepsStep (printed : ℕ → Option ℕ) (station : S)
      (result : Result (Unit {0}) StoreFault) (old new : Keeper K) : Type 0 where
    pub commits : Commits store (step_of printed station old) result old.store new.store
    pub sending : OnOk result (new.sending.items
        ≡ sending_now kept_at station old.sending.items)
    pub receiving : OnOk result (new.receiving.items
        ≡ receiving_now party station printed old.receiving.items)
    pub named : IfErr result (λ fault. new.fault ≡ Some fault)

  -- All that the station has changed is kept, and known to be kept.
  pub record KeepsChanged (printed : ℕ → Option ℕ) (station : S) (old new : Keeper K) : Type 0
    where
      pub changes : KeepsAll store (step_of printed station old) old.store new.store
      pub sending : new.sending.items ≡ sending_now kept_at station old.sending.items
      pub receiving : new.receiving.items
          ≡ receiving_now party station printed old.receiving.items
