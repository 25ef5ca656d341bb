-- What a work does with an open store, and what it prints.
use Rattle.std.specs.Prelude.{◌≡◌, ℕ, List, [], ◌∷◌, ◌++◌, map, length, codes, Option, Some}
use Rattle.std.specs.Prelude.{None, Ok, Err, Result, IsSomeAnd, ℤ, pos, Bool, nat_lt, if◌then◌else◌}
use Rattle.std.specs.Fmt.{decimal}
use Rattle.std.specs.Str.{bytes_eq}
use Rattle.std.specs.Str.Lines.{lines}
use Rattle.std.specs.Io.KnownBytes.{Appends}
use Rattle.bsc_spool.specs.declared.channel.Channel.{Channel}
use Rattle.bsc_spool.specs.declared.change.Change.{Change}
use Rattle.bsc_spool.specs.declared.change.Change.TheVariants.{Offered}
use Rattle.bsc_spool.specs.declared.store.Found.{Found}
use Rattle.bsc_spool.specs.declared.store.Progress.{Progress}
use Rattle.bsc_spool.specs.declared.store.Store as store_of
use Rattle.bsc_options.specs.declared.store_works.StoreChannel.{StoreChannel}
use Rattle.bsc_bid.specs.declared.speaker.Speaker.{Speaker}
use Rattle.bsc_bid.specs.declared.speaker.Speaker.TheVariants as speaker
use Rattle.bsc_text.specs.declared.form.Form.{Form}
use Rattle.bsc_text.specs.declared.form.Form.TheVariants.{Text, Hexadecimal}
use Rattle.bsc_storing.specs.declared.error.StoringError.{StoringError}
use Rattle.bsc_storing.specs.declared.error.StoringError.TheVariants as storing
use Rattle.bsc_storing.specs.declared.kept_line.KeptLine.{KeptLine}
use Rattle.bsc_bid.specs.declared.channel.ChannelName.{ChannelName}
use Rattle.bsc_storing.specs.declared.work.Work.{Work}
use Rattle.bsc_storing.specs.declared.work.Work.TheVariants as work
use Rattle.bsc_storing.specs.Lines.{ShowsTerminals, arrived_line}
use Rattle.bsc_storing.specs.Names.{name_shown, named_at, receiving_name, sending_name}
use Rattle.bsc_storing.specs.Releases.{release_of}

-- What is printed of a channel: its name, what was done, and a number.
abbrev pub told : KeptLine → ChannelName → List ℕ → ℕ → List ℕ
told line name what count =
    name_shown line name ++ codes ": " ++ what ++ codes " " ++ decimal count ++ codes "\n"

-- The store at this path is not to be reconciled with itself, or that is refused.
abbrev pub is_other : List ℕ → Work → Result (Unit {0}) StoringError
is_other path (work.Reconcile other) =
    if bytes_eq path other.now then Err storing.SameStore else Ok tt
is_other path _ = Ok tt

-- What is known of a store.
module _ {S : Type 0} (store : store_of.Ghosts S) where
  -- The record that the store gives next is printed, and its mark is known; or there is none.
  abbrev pub PrintsNext : Channel → Form → ℤ → ℕ → S → S → Option (List ℕ) → Option (List ℕ)
      → Option ℤ → Type 0
  PrintsNext channel form mark more old new before after (Some next) =
      (it : Found) × (it.mark ≡ next)
      × store.finds_arrived channel mark more (Some it) old new
      × Appends before after (arrived_line form it.«record»)
  PrintsNext channel form mark more old new before after None =
      store.finds_arrived channel mark more None old new × (after ≡ before)

  -- These records are the ones that the store gives, one after another up to the last, and their
  -- lines are printed.
  abbrev pub PrintsFrom : Channel → Form → ℤ → ℕ → List Found → S → S → Option (List ℕ)
      → Option (List ℕ) → Type 0
  PrintsFrom channel form mark more [] old new before after =
      store.finds_arrived channel mark more None old new × (after ≡ before)
  PrintsFrom channel form mark more (it ∷ its) old new before after =
      (mid : S) × (out : Option (List ℕ))
      × store.finds_arrived channel mark more (Some it) old mid
      × Appends before out (arrived_line form it.«record»)
      × PrintsFrom channel form it.mark 0 its mid new out after

  -- All are printed but this many first ones.
  abbrev pub PrintsLines : Channel → ℕ → Form → S → S → Option (List ℕ) → Option (List ℕ)
      → Type 0
  PrintsLines channel first form old new before after =
      (its : List Found) × PrintsFrom channel form (pos 0) first its old new before after

  -- So they are of the channel that the words name, on which the station receives.
  abbrev pub PrintsArrived : KeptLine → StoreChannel → ℕ → Form → S → S → Option (List ℕ)
      → Option (List ℕ) → Type 0
  PrintsArrived line channel first form old new before after =
      IsSomeAnd (named_at line (receiving_name line.station channel))
      (λ its. PrintsLines its.1 first form old new before after)

  -- Exactly these records are offered on the channel that the words name, in order and in one step,
  -- and that is said.
  abbrev pub OffersAll : KeptLine → StoreChannel → List (List ℕ) → S → S → Option (List ℕ)
      → Option (List ℕ) → Type 0
  OffersAll line channel records old new before after =
      IsSomeAnd (named_at line (sending_name line.station channel))
      (λ its. store.keeps (map (Offered its.1) records) old new
      × Appends before after (told line its.0 (codes "offered") (length records)))

  -- The doubt of a channel ends, by the numbers that the store gives of it and by the count of the
  -- other end.
  pub record EndsDoubt (channel : Channel) (count : ℕ) (old new : S) : Type 0 where
    pub numbers : Progress
    pub mid : S
    pub change : Change
    pub counts : store.counts channel numbers old mid
    pub release : release_of channel numbers count ≡ Ok change
    pub kept : store.keeps (change ∷ []) mid new

  -- That is so of the channel that the words name, and that is said.
  abbrev pub EndsOne : KeptLine → StoreChannel → ℕ → S → S → Option (List ℕ) → Option (List ℕ)
      → Type 0
  EndsOne line channel count old new before after =
      IsSomeAnd (named_at line (sending_name line.station channel))
      (λ its. EndsDoubt its.1 count old new
      × Appends before after (told line its.0 (codes "released at") count))

  -- What a work does with one store.
  abbrev pub Does : KeptLine → Work → S → S → Option (List ℕ) → Option (List ℕ) → Type 0
  Does line (work.Offer channel path text) old new before after =
      OffersAll line channel (lines text.now) old new before after
  Does line (work.Arrived channel first form) old new before after =
      PrintsArrived line channel first form old new before after
  Does line work.Status old new before after =
      ShowsTerminals store line (length line.terminals.items) old new before after
  Does line (work.Release channel count) old new before after =
      EndsOne line channel count old new before after
  Does line (work.Reconcile other) old new before after = (new ≡ old) × (after ≡ before)

-- The form in which records are printed.
abbrev pub form_if : Bool → Form
form_if text = if text then Text else Hexadecimal

-- Whether a line with this many terminals has the station.
abbrev pub station_in : ℕ → Speaker → Result (Unit {0}) StoringError
station_in count speaker.Control = Ok tt
station_in count (speaker.Terminal number) =
    if nat_lt number count then Ok tt else Err storing.NoTerminal
