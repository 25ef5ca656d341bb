-- What is kept has all that is to be kept of a station, before each wait of a session.
use Rattle.std.specs.Prelude.{◌≡◌, ◌≤◌, ◌⊎◌, ℕ, Bool, List, length, Option, None, Ok}
use Rattle.std.specs.List.{AllByRecursion}
use Rattle.bsc_bid.specs.declared.kept.KeptSender.{KeptSender}
use Rattle.bsc_spool.specs.declared.ends.Receiving.{Receiving}
use Rattle.bsc_spool.specs.declared.store.Store as store_of
use Rattle.bsc_connections.specs.Parts.{SessionParts}
use Rattle.bsc_connections.specs.Connections.{ConnectionValue}
use Rattle.bsc_connections.specs.Histories.{Happening}
use Rattle.bsc_connections.specs.Attending.{GoesOn, Session, Steps}
use Rattle.bsc_station.specs.declared.party.Party as party_of
use Rattle.bsc_keeping.specs.Changes.{records_of, sending_now}
use Rattle.bsc_keeping.specs.Sessions.{IsKept}
use Rattle.bsc_keeping.specs.declared.keeper.Keeper.{Keeper}
use Rattle.bsc_keeping.specs.declared.keeping.Keeping.{Keeping}
use Rattle.bsc_keeping.specs.declared.stored.Stored.{Stored}

-- What is known of a station with memory of type Z, what it says of the channels on which it sends,
-- what is known of its store, and how many records of each channel were printed.
module _ {S K V Z : Type 0} (party : party_of.Ghosts S Z)
    (kept_at : S → ℕ → ℕ → Option KeptSender) (store : store_of.Ghosts K)
    (printed : V → ℕ → Option ℕ) where
  -- All that the station has changed is kept, or neither the station nor what is kept of it has
  -- changed.
  abbrev pub IsKeptOrSame : {M C T : Type 0} → Session S C (Keeping M (Stored K V)) T
      → Session S C (Keeping M (Stored K V)) T → Type 0
  IsKeptOrSame old new =
      IsKept party kept_at store printed new.station old.monitor new.monitor
      ⊎ ((new.station ≡ old.station) × (new.monitor.kept.now.keeper ≡ old.monitor.kept.now.keeper))

  -- So it is in every step of a session after which the station is attended further, or that ends
  -- it without an error.
  abbrev pub KeepsEachChange : {R W F M T : Type 0}
      → SessionParts S R W F (Keeping M (Stored K V)) T → Type 0
  KeepsEachChange {R} {W} {F} {M} {T} parts =
      (old new : Session S (ConnectionValue R W F) (Keeping M (Stored K V)) T)
      (happened : List Happening) (goes_on : Bool) → Steps parts old happened (Ok goes_on) new
      → IsKeptOrSame old new

  -- All records that arrived on the channel of this end are kept.
  abbrev pub HasArrived : S → Receiving → Type 0
  HasArrived station end =
      length (records_of party station (λ _. None) end.number) ≤ end.arrived

  -- What is kept has all that is to be kept of the station: of each channel on which it sends what
  -- is known and in doubt, of each other all records that arrived.
  pub record HasAll (station : S) (keeper : Keeper K) : Type 0 where
    pub sending : sending_now kept_at station keeper.sending.items ≡ keeper.sending.items
    pub receiving : AllByRecursion (HasArrived station) keeper.receiving.items

  -- If that is so at the beginning of a session, it is so before each of its waits.
  abbrev pub HasAllThroughout : {R W F M T : Type 0}
      → SessionParts S R W F (Keeping M (Stored K V)) T → Type 0
  HasAllThroughout {R} {W} {F} {M} {T} parts =
      (steps : ℕ) (old new : Session S (ConnectionValue R W F) (Keeping M (Stored K V)) T)
      → HasAll old.station old.monitor.kept.now.keeper → GoesOn parts steps old new
      → HasAll new.station new.monitor.kept.now.keeper
