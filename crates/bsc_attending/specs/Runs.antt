-- How a station runs whose records are kept.
use Rattle.std.specs.Prelude.{◌≡◌, ◌⊎◌, ℕ, Bool, true, false, List, Option, None, Some, is_some}
use Rattle.std.specs.Prelude.{Result}
use Rattle.std.specs.Prelude.{IsErrAnd, IsSomeAnd, Ok}
use Rattle.bsc_options.specs.Words.{WordsValue}
use Rattle.bsc_control.specs.Control.{ControlValue}
use Rattle.bsc_spool.specs.Contents.{Contents, GivesBack, IsRead}
use Rattle.bsc_spool.specs.declared.channel.Channel.{Channel}
use Rattle.bsc_spool.specs.declared.ends.Receiving.{Receiving}
use Rattle.bsc_spool.specs.declared.ends.Sending.{Sending}
use Rattle.bsc_spool.specs.declared.store.Store as store_of
use Rattle.bsc_station.specs.LineTerminal.{LineTerminalValue}
use Rattle.bsc_keeping.specs.Filled.{IsControlFilledFrom, IsTerminalFilledFrom, KeepsFrom}
use Rattle.bsc_keeping.specs.Own.{receiving_of, sending_of}
use Rattle.bsc_keeping.specs.LiveRuns.{Course, State}
use Rattle.bsc_keeping.specs.Runs.{Moment}
use Rattle.bsc_keeping.specs.declared.keeper.Keeper.{Keeper}
use Rattle.bsc_keeping.specs.declared.own.Own.{Own}
use Rattle.bsc_options.specs.Settings.{SettingsValue, settings_in}
use Rattle.bsc_bid.specs.declared.speaker.Speaker.{Speaker}
use Rattle.bsc_attending.specs.Ending.{HasRun, IsSameKind}
use Rattle.bsc_attending.specs.Errors.{IsCutShort, IsStoreError, IsUnbegun}
use Rattle.bsc_attending.specs.Live.{RanLive}
use Rattle.bsc_attending.specs.Preparing.{IsBegun, IsPrepared, IsUnprepared}
use Rattle.bsc_attending.specs.Forgetting.{forgets_printed_in}
use Rattle.bsc_attending.specs.declared.error.AttendingError.{AttendingError}
use Rattle.bsc_attending.specs.declared.preparing.Prepared.{Prepared}
use Rattle.bsc_attending.specs.declared.preparing.Prepared.TheVariants as prepared

-- A station and its keeper.
abbrev pub at : {S K : Type 0} → S → Keeper K → Moment S K
at station keeper = record { station = station; keeper = keeper }

-- A station ran whose records this keeps, for which `runs` says what that means, and something
-- failed only if this is so.
pub record RunsKept {S K : Type 0} (runs : Bool → Moment S K → Moment S K → Type 0) (old : S)
    (keeper : Keeper K) (failure : Type 0) (new : S) : Type 0 where
  pub last : Keeper K
  pub fine : Bool
  pub ran : runs fine (at old keeper) (at new last)
  pub fails : fine ≡ false → failure

-- So it is of a prepared station.
abbrev pub PreparedRunsKept : {K : Type 0}
    → (Bool → Moment ControlValue K → Moment ControlValue K → Type 0)
    → (Bool → Moment LineTerminalValue K → Moment LineTerminalValue K → Type 0) → Prepared
    → Keeper K → Type 0 → Prepared → Type 0
PreparedRunsKept control terminal (prepared.Control old) keeper failure
    (prepared.Control new) =
    RunsKept control old keeper failure new
PreparedRunsKept control terminal (prepared.Terminal old) keeper failure
    (prepared.Terminal new) =
    RunsKept terminal old keeper failure new
PreparedRunsKept control terminal old keeper failure new = ⊥

-- A prepared station is filled with what its store has of the channels with these ends.
abbrev pub IsPreparedFilled : (Channel → Contents) → Bool → List Sending → List Receiving
    → Prepared → Prepared → Type 0
IsPreparedFilled has forgets_printed sending receiving (prepared.Control old)
    (prepared.Control new) =
    IsControlFilledFrom has forgets_printed sending receiving old new
IsPreparedFilled has forgets_printed sending receiving (prepared.Terminal old)
    (prepared.Terminal new) =
    IsTerminalFilledFrom has forgets_printed sending receiving old new
IsPreparedFilled has forgets_printed sending receiving old new = ⊥

-- A prepared station begins with what its store has, which is only read, as long as the store gives
-- back what it has; and what keeps the records of the station knows how much that is.
pub record BeginsFrom {K : Type 0} (store : store_of.Ghosts K) (forgets_printed : Bool)
    (sending : List Sending) (receiving : List Receiving) (old new : Prepared)
    (keeper : Keeper K) : Type 0 where
  pub opened : K
  pub reads : IsRead store opened keeper.store
  pub filled : (has : K → Channel → Contents) → GivesBack store has → store.sound keeper.store
      → IsPreparedFilled (has opened) forgets_printed sending receiving old new
  pub knows : (has : K → Channel → Contents) → GivesBack store has → store.sound keeper.store
      → KeepsFrom (has opened) sending receiving keeper

-- So it is if its records are to be kept, as the flag says, and this is known of its channels; else
-- nothing changes, and nothing is to keep them.
abbrev pub BeginsIf : {K : Type 0} → store_of.Ghosts K → Bool → Bool → Option Own → Prepared
    → Prepared → Option (Keeper K) → Type 0
BeginsIf store forgets_printed true (Some own) old new keeper =
    IsSomeAnd keeper
    (BeginsFrom store forgets_printed own.sending.items own.receiving.items old new)
BeginsIf store forgets_printed true None old new keeper = (new ≡ old) × (keeper ≡ None)
BeginsIf store forgets_printed false own old new keeper = (new ≡ old) × (keeper ≡ None)

-- A station was prepared as the words ask for it, and, if its records are to be kept, as the flag
-- says, filled with what its store has.
pub record HasBegun {K : Type 0} (store : store_of.Ghosts K) (w : WordsValue) (speaker : Speaker)
    (forgets_printed is_kept : Bool) (input : Option (List ℕ)) (now : Prepared)
    (keeper : Option (Keeper K)) : Type 0 where
  pub after : Option (List ℕ)
  pub begun : Prepared
  pub prepared : IsPrepared w speaker input after begun
  pub kind : IsSameKind begun now
  pub kept : is_kept ≡ true → IsSomeAnd keeper
      (BeginsFrom store forgets_printed
      (sending_of prepared.config.terminals speaker)
      (receiving_of prepared.config.terminals speaker) begun now)
  pub unkept : is_kept ≡ false → (now ≡ begun) × (keeper ≡ None)

-- It could not be prepared, or its store is refused, with this error.
abbrev pub IsNotBegun : WordsValue → Speaker → ℕ → Option (List ℕ) → AttendingError → Type 0
IsNotBegun w speaker peers input error =
    IsUnprepared w speaker peers input error ⊎ (IsBegun w speaker input × IsStoreError error)

-- A station whose records are to be kept was prepared as the words ask for it, with the settings
-- that they have, began with what its store has, and ran while it was kept, until it was cut short
-- or ended. Its channels are those of its configuration. It does something for programs only if it
-- serves them. `runs` says what it means to run, and `contents` what was written to a writer.
pub record RunsStored {K W : Type 0} (store : store_of.Ghosts K)
    (runs : Bool → Prepared → Keeper K → Type 0 → Prepared → Type 0)
    (contents : W → Option (List ℕ)) (w : WordsValue) (input : Option (List ℕ))
    (result : Result (Unit {0}) AttendingError) (new : W) : Type 0 where
  pub settings : SettingsValue
  pub read : settings_in w ≡ Ok settings
  pub after : Option (List ℕ)
  pub begun : Prepared
  pub prepared : IsPrepared w settings.speaker input after begun
  pub filled : Prepared
  pub keeper : Keeper K
  pub begins : BeginsFrom store (forgets_printed_in settings)
      (sending_of prepared.config.terminals settings.speaker)
      (receiving_of prepared.config.terminals settings.speaker) begun filled keeper
  pub ended : Prepared
  pub ran : runs (is_some settings.serves) filled keeper (IsErrAnd result IsCutShort) ended
  pub ends : HasRun contents settings.reported filled ended result new

-- It was refused before it began, as the error says, or it ran so.
abbrev pub IsKeptRun : {K W : Type 0} → store_of.Ghosts K
    → (Bool → Prepared → Keeper K → Type 0 → Prepared → Type 0) → (W → Option (List ℕ)) → WordsValue
    → Option (List ℕ) → Result (Unit {0}) AttendingError → W → Type 0
IsKeptRun store runs contents w input result new =
    IsErrAnd result IsUnbegun ⊎ RunsStored store runs contents w input result new

-- A station without a store ran, for which `runs` says what that means of it and of what prints its
-- records, and something failed only if this is so.
pub record RunsPrinted {S Q : Type 0} (runs : Course → State S Q → State S Q → Type 0) (old new : S)
    (failure : Type 0) : Type 0 where
  pub first : Q
  pub last : Q
  pub ran : RanLive runs old new first last failure

-- It ran so, or something failed before, and nothing became of it.
abbrev pub HasRunPrinted : {S Q : Type 0} → (Course → State S Q → State S Q → Type 0) → S → S
    → Type 0 → Type 0
HasRunPrinted runs old new failure = (failure × (new ≡ old)) ⊎ RunsPrinted runs old new failure

-- So it is of a prepared station.
abbrev pub PreparedRunsPrinted : {Q : Type 0}
    → (Course → State ControlValue Q → State ControlValue Q → Type 0)
    → (Course → State LineTerminalValue Q → State LineTerminalValue Q → Type 0) → Prepared → Type 0
    → Prepared → Type 0
PreparedRunsPrinted control terminal (prepared.Control old) failure (prepared.Control new) =
    HasRunPrinted control old new failure
PreparedRunsPrinted control terminal (prepared.Terminal old) failure (prepared.Terminal new) =
    HasRunPrinted terminal old new failure
PreparedRunsPrinted control terminal old failure new = ⊥

-- A station without a store was prepared as the words ask for it, with the settings that they have,
-- and ran until it was cut short or ended. It does something for programs only if it serves them.
pub record RunsUnkept {W : Type 0} (runs : Bool → Prepared → Type 0 → Prepared → Type 0)
    (contents : W → Option (List ℕ)) (w : WordsValue) (input : Option (List ℕ))
    (result : Result (Unit {0}) AttendingError) (new : W) : Type 0 where
  pub settings : SettingsValue
  pub read : settings_in w ≡ Ok settings
  pub after : Option (List ℕ)
  pub begun : Prepared
  pub prepared : IsPrepared w settings.speaker input after begun
  pub ended : Prepared
  pub ran : runs (is_some settings.serves) begun (IsErrAnd result IsCutShort) ended
  pub ends : HasRun contents settings.reported begun ended result new

abbrev pub IsPrintedRun : {W : Type 0} → (Bool → Prepared → Type 0 → Prepared → Type 0)
    → (W → Option (List ℕ)) → WordsValue → Option (List ℕ) → Result (Unit {0}) AttendingError → W
    → Type 0
IsPrintedRun runs contents w input result new =
    IsErrAnd result IsUnbegun ⊎ RunsUnkept runs contents w input result new
