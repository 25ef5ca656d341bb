-- What is kept in a step of a session of a station, before something is sent.
use Rattle.std.specs.Prelude.{◌≡◌, ◌≢◌, ℕ, Bool, List, [], Option, Result}
use Rattle.bsc_bid.specs.declared.kept.KeptSender.{KeptSender}
use Rattle.bsc_spool.specs.declared.store.Store as store_of
use Rattle.bsc_connections.specs.declared.awaited.LiveError.{LiveError}
use Rattle.bsc_connections.specs.Parts.{SessionParts}
use Rattle.bsc_connections.specs.Connections.{ConnectionValue}
use Rattle.bsc_connections.specs.Histories.{Happening, all_sent}
use Rattle.bsc_connections.specs.Attending.{Session, Steps}
use Rattle.bsc_station.specs.declared.party.Party as party_of
use Rattle.bsc_keeping.specs.Keeping.{KeepsChanged, SurvivesAll, step_of}
use Rattle.bsc_keeping.specs.Printed.{ArePrinted, Output, PrintsArrivals, output_of}
use Rattle.bsc_keeping.specs.declared.keeping.Keeping.{Keeping}
use Rattle.bsc_keeping.specs.declared.printed.Printed.{Printed}
use Rattle.bsc_keeping.specs.declared.stored.Stored.{Stored}

-- What is known of a station with memory of type Z, what it says of the channels on which it sends,
-- what is known of its store, and how many records of each channel were printed.
module _ {S M K V Z : Type 0} (party : party_of.Ghosts S Z)
    (kept_at : S → ℕ → ℕ → Option KeptSender) (store : store_of.Ghosts K)
    (printed : V → ℕ → Option ℕ) where
  -- A crash at any moment leaves what was kept before the step, or all that the station has
  -- changed in it.
  abbrev pub Survives : S → Keeping M (Stored K V) → Keeping M (Stored K V) → Type 0
  Survives station old new =
      SurvivesAll store
      (step_of party kept_at store (printed old.kept.now.printer) station old.kept.now.keeper)
      old.kept.now.keeper.store new.kept.now.keeper.store

  -- All that the station has changed is kept, and known to be kept.
  abbrev pub IsKept : S → Keeping M (Stored K V) → Keeping M (Stored K V) → Type 0
  IsKept station old new =
      KeepsChanged party kept_at store (printed old.kept.now.printer) station old.kept.now.keeper
      new.kept.now.keeper

  -- In a step of a session a crash at any moment leaves what was kept before it or all of it. If
  -- the station sends something in it, all that it has changed is kept.
  abbrev pub KeepsInStep : {R W F T : Type 0}
      → Session S (ConnectionValue R W F) (Keeping M (Stored K V)) T → List Happening
      → Session S (ConnectionValue R W F) (Keeping M (Stored K V)) T → Type 0
  KeepsInStep old happened new =
      Survives new.station old.monitor new.monitor
      × (all_sent happened ≢ [] → IsKept new.station old.monitor new.monitor)

  -- So it is in every step of a session.
  abbrev pub KeepsBeforeSending : {R W F T : Type 0}
      → SessionParts S R W F (Keeping M (Stored K V)) T → Type 0
  KeepsBeforeSending {R} {W} {F} {T} parts =
      (old new : Session S (ConnectionValue R W F) (Keeping M (Stored K V)) T)
      (happened : List Happening) (result : Result Bool LiveError)
      → Steps parts old happened result new → KeepsInStep old happened new

-- In every step of a session in which the station sends something, the records that have arrived at
-- it are printed: the lines of those that had not been printed before, and of no others.
abbrev pub PrintsBeforeSending : {S R W F M T Z O : Type 0} → party_of.Ghosts S Z
    → (O → Option (List ℕ)) → SessionParts S R W F (Keeping M (Printed O)) T → Type 0
PrintsBeforeSending {S} {R} {W} {F} {M} {T} {Z} {O} party contents parts =
    (old new : Session S (ConnectionValue R W F) (Keeping M (Printed O)) T)
    (happened : List Happening) (result : Result Bool LiveError)
    → Steps parts old happened result new → all_sent happened ≢ []
    → PrintsArrivals party new.station (output_of contents old.monitor.kept.now)
    (output_of contents new.monitor.kept.now)
    × ArePrinted party new.station (output_of contents new.monitor.kept.now)
