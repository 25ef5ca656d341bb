-- The lines that are printed of a channel.
use Rattle.std.specs.Prelude.{◌≡◌, ◌+◌, ℕ, zero, suc, Bool, true, false, List, [], ◌∷◌, ◌++◌, codes}
use Rattle.std.specs.Prelude.{Option, Some, None, length, slice_index_or, ◌-◌, nat_lt}
use Rattle.std.specs.Prelude.{if◌then◌else◌}
use Rattle.bsc_bid.specs.declared.way.Way.TheVariants.{FromTerminal}
use Rattle.bsc_text.specs.Channels.{each_below}
use Rattle.std.specs.Fmt.{decimal}
use Rattle.std.specs.Io.KnownBytes.{Appends}
use Rattle.bsc_bid.specs.declared.limits.TheConstants.{MAX_SELECTS}
use Rattle.bsc_spool.specs.declared.channel.Channel.{Channel}
use Rattle.bsc_spool.specs.declared.store.Progress.{Progress}
use Rattle.bsc_spool.specs.declared.store.Store as store_of
use Rattle.bsc_bid.specs.declared.speaker.Speaker.{Speaker}
use Rattle.bsc_bid.specs.declared.speaker.Speaker.TheVariants.{Control, Terminal}
use Rattle.bsc_text.specs.Forms.{in_form}
use Rattle.bsc_text.specs.declared.form.Form.{Form}
use Rattle.bsc_storing.specs.declared.kept_line.KeptLine.{KeptLine}
use Rattle.bsc_bid.specs.declared.channel.ChannelName.{ChannelName}
use Rattle.bsc_storing.specs.declared.reconciling.Ended.{Ended}
use Rattle.bsc_storing.specs.declared.reconciling.Unfit.{Unfit}
use Rattle.bsc_storing.specs.Names.{channel_at, name_at, name_shown, receives_on, sends_on}

-- What follows the name of a channel at its sending end: how many records were offered, how many
-- are known, and how many are in doubt.
abbrev pub offered_shown : Progress → List ℕ
offered_shown it = codes ": offered " ++ decimal it.offered ++ codes ", known " ++ decimal it.known

abbrev pub doubt_shown : Progress → List ℕ
doubt_shown it = codes ", in doubt " ++ decimal it.in_doubt ++ codes "\n"

-- What follows it at its receiving end.
abbrev pub receiving_shown : Progress → List ℕ
receiving_shown it =
    codes ": arrived " ++ decimal it.arrived ++ codes ", printed " ++ decimal it.printed
    ++ codes "\n"

-- What is known of a store.
module _ {S : Type 0} (store : store_of.Ghosts S) where
  -- The line of a channel that has this name is printed, with the numbers that the store gives: for
  -- its sending end, for its receiving end, or none if neither is at the station.
  abbrev pub ShowsEnd : Channel → Bool → Bool → List ℕ → S → S → Option (List ℕ)
      → Option (List ℕ) → Type 0
  ShowsEnd channel true receives name old new before after =
      (it : Progress) × store.counts channel it old new
      × Appends before after (name ++ (offered_shown it ++ doubt_shown it))
  ShowsEnd channel false true name old new before after =
      (it : Progress) × store.counts channel it old new
      × Appends before after (name ++ receiving_shown it)
  ShowsEnd channel false false name old new before after = (new ≡ old) × (after ≡ before)

  -- The line of the channel with this name is printed, if the line has it.
  abbrev pub ShowsIfThere : Option Channel → KeptLine → ChannelName → S → S → Option (List ℕ)
      → Option (List ℕ) → Type 0
  ShowsIfThere None line name old new before after = (new ≡ old) × (after ≡ before)
  ShowsIfThere (Some channel) line name old new before after =
      ShowsEnd channel (sends_on line.station name name.way)
      (receives_on line.station name name.way) (name_shown line name) old new before after

  abbrev pub ShowsChannel : KeptLine → ChannelName → S → S → Option (List ℕ)
      → Option (List ℕ) → Type 0
  ShowsChannel line name old new before after =
      ShowsIfThere (channel_at line name) line name old new before after

  -- The lines of the channels at the first places of a terminal are printed, in order.
  abbrev pub ShowsPlaces : KeptLine → ℕ → ℕ → S → S → Option (List ℕ) → Option (List ℕ)
      → Type 0
  ShowsPlaces line terminal zero old new before after = (new ≡ old) × (after ≡ before)
  ShowsPlaces line terminal (suc place) old new before after =
      (mid : S) × (out : Option (List ℕ)) × ShowsPlaces line terminal place old mid before out
      × ShowsChannel line (name_at terminal place) mid new out after

  -- The lines of the channels of the first terminals are printed, in order: of each the channel
  -- from it and those to its selection addresses.
  abbrev pub ShowsTerminals : KeptLine → ℕ → S → S → Option (List ℕ) → Option (List ℕ) → Type 0
  ShowsTerminals line zero old new before after = (new ≡ old) × (after ≡ before)
  ShowsTerminals line (suc terminal) old new before after =
      (mid : S) × (out : Option (List ℕ)) × ShowsTerminals line terminal old mid before out
      × ShowsPlaces line terminal (MAX_SELECTS + 1) mid new out after

-- The line for a doubt that was ended at a count, for the one at this place, and for all of them,
-- or that there was none.
abbrev pub ended_shown : KeptLine → Ended → List ℕ
ended_shown line it =
    name_shown line it.name ++ codes ": released at " ++ decimal it.count ++ codes "\n"

abbrev pub ended_at : KeptLine → List Ended → ℕ → List ℕ
ended_at line its place =
    ended_shown line
    (slice_index_or its place
    (record { name = record { terminal = 0; way = FromTerminal }; count = 0 }))

abbrev pub all_ended_shown : KeptLine → List Ended → List ℕ
all_ended_shown line [] = codes "nothing in doubt\n"
all_ended_shown line (it ∷ its) = each_below (ended_at line (it ∷ its)) (length (it ∷ its))

-- What follows the name of a channel whose counts do not fit: how many records have arrived that
-- are not known, or are known and have not arrived.
abbrev pub difference_shown : ℕ → ℕ → List ℕ
difference_shown known arrived =
    if nat_lt known arrived
    then codes ": arrived but not known: " ++ decimal (arrived - known) ++ codes "\n"
    else codes ": known but not arrived: " ++ decimal (known - arrived) ++ codes "\n"

-- The line for the channel at this place.
abbrev pub unfit_shown : KeptLine → Unfit → List ℕ
unfit_shown line it = name_shown line it.name ++ difference_shown it.known it.arrived

abbrev pub unfit_at : KeptLine → List Unfit → ℕ → List ℕ
unfit_at line its place =
    unfit_shown line
    (slice_index_or its place
    (record { name = record { terminal = 0; way = FromTerminal }; known = 0; arrived = 0 }))

-- The line for a store that was made.
abbrev pub made_shown : Speaker → List ℕ
made_shown Control = codes "control station: store made\n"
made_shown (Terminal number) = codes "terminal " ++ decimal number ++ codes ": store made\n"

-- The line of a record that arrived.
abbrev pub arrived_line : Form → List ℕ → List ℕ
arrived_line form it = in_form form it ++ codes "\n"
