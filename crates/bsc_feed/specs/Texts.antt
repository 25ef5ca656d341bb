-- The text of what is told.
use Rattle.std.specs.Prelude.{◌≡◌, ℕ, Bool, true, false, List, [], ◌++◌, codes, slice_get}
use Rattle.std.specs.Prelude.{unwrap_or}
use Rattle.std.specs.Prelude.{Option, Some, None, Result, Ok, IfOk, if◌then◌else◌}
use Rattle.std.specs.Fmt.{decimal}
use Rattle.std.specs.Io.KnownBytes.{Appends}
use Rattle.bsc_station.specs.Ends.{End, receiving}
use Rattle.bsc_report.specs.Printed.{end_shown}
use Rattle.bsc_monitor.specs.declared.attendance.Presence.{Presence}
use Rattle.bsc_station.specs.declared.party.Party as party_of
use Rattle.bsc_bid.specs.declared.way.Way.{Way}
use Rattle.bsc_bid.specs.declared.way.Way.TheVariants.{FromTerminal}
use Rattle.bsc_text.specs.Forms.{escaped}
use Rattle.bsc_text.specs.declared.error.PrintError.{PrintError}
use Rattle.bsc_feed.specs.declared.told.Told.{Told}
use Rattle.bsc_feed.specs.declared.told.Told.TheVariants.{Kept, Done, Refused, State, Arrived}
use Rattle.bsc_feed.specs.declared.told.Told.TheVariants.{Delivered}
use Rattle.bsc_feed.specs.Faults.{fault_text}
use Rattle.bsc_feed.specs.Places.{end_at, is_there, name_at, terminal_at, way_at}

-- What one line tells a client.
abbrev pub Telling : Type 0
Telling = Told

-- The state of a channel with this end, as the report of a station has it.
abbrev pub state_shown : Option End → List ℕ
state_shown None = codes "\n"
state_shown (Some end) = end_shown None end

-- Whether a terminal is polled, and whether it is absent.
abbrev pub polled_shown : Bool → List ℕ
polled_shown true = codes ": polled, "
polled_shown false = codes ": not polled, "

abbrev pub absent_shown : Bool → List ℕ
absent_shown true = codes "absent, "
absent_shown false = codes "present, "

-- How long ago a terminal was heard last, if it was.
abbrev pub heard_shown : Option ℕ → List ℕ
heard_shown None = codes "never heard\n"
heard_shown (Some time) = codes "heard " ++ decimal time ++ codes " ms ago\n"

-- The name of a count, and the count.
abbrev pub count_shown : List ℕ → ℕ → List ℕ
count_shown name count = name ++ codes " " ++ decimal count ++ codes ", "

-- How often a terminal has answered, and how often with NAK.
abbrev pub answers_shown : ℕ → ℕ → List ℕ
answers_shown answers naks =
    count_shown (codes "answers") answers ++ count_shown (codes "NAKs") naks

-- How many of its calls were repeated, and how many silences have passed.
abbrev pub silences_shown : ℕ → ℕ → List ℕ
silences_shown repetitions silences =
    count_shown (codes "repetitions") repetitions ++ count_shown (codes "silences") silences

-- The same, and when it was heard last.
abbrev pub visits_shown : Presence → List ℕ
visits_shown p =
    answers_shown p.answers p.naks ++ silences_shown p.repetitions p.silences
    ++ heard_shown p.heard

-- Whether the terminal with this number is polled, and whether it is absent.
abbrev pub terminal_shown : ℕ → Bool → Bool → List ℕ
terminal_shown terminal polled absent =
    codes "terminal " ++ decimal terminal ++ polled_shown polled ++ absent_shown absent

-- The line for what is known of a terminal with this number.
abbrev pub presence_text : ℕ → Presence → List ℕ
presence_text terminal p = terminal_shown terminal p.polled p.absent ++ visits_shown p

-- The same of the terminal of a channel before the state of the channel from it, if it is known.
abbrev pub presence_shown : Way → ℕ → Option Presence → List ℕ
presence_shown FromTerminal terminal (Some p) = presence_text terminal p
presence_shown _ terminal _ = []

-- The characters of the record with this number that arrived on the channel with this end.
abbrev pub record_at : Option End → ℕ → List ℕ
record_at (Some (receiving records)) number = unwrap_or (slice_get records number) []
record_at _ number = []

-- The text of an answer, with its line feed.
abbrev pub kept_text : ℕ → List ℕ
kept_text number = codes "ok " ++ decimal number ++ codes "\n"

abbrev pub refused_text : List ℕ → List ℕ
refused_text fault = codes "fault " ++ fault ++ codes "\n"

-- A word, the name of a channel and a number, with spaces between them.
abbrev pub numbered_text : List ℕ → List ℕ → ℕ → List ℕ
numbered_text word name number = word ++ codes " " ++ name ++ codes " " ++ decimal number

-- The line for a record with this number and these characters on the channel with this name.
abbrev pub arrived_text : List ℕ → ℕ → List ℕ → List ℕ
arrived_text name number chars =
    numbered_text (codes "arrived") name number ++ codes " " ++ escaped chars ++ codes "\n"

-- The line for how many records of the channel with this name are known to have arrived.
abbrev pub delivered_text : List ℕ → ℕ → List ℕ
delivered_text name known = numbered_text (codes "delivered") name known ++ codes "\n"

-- What is known of a station with memory of type M, and the station.
module _ {P M : Type 0} (party : party_of.Ghosts P M) (station : P) where
  -- The name of the channel at this place, if there is one.
  abbrev pub named : ℕ → List ℕ
  named place = if is_there party station place then name_at party station place else []

-- What is known of a station with memory of type M, what it knows of the terminals that it calls,
-- and the station.
module _ {P M : Type 0} (party : party_of.Ghosts P M) (shows : P → ℕ → Option Presence)
    (station : P) where
  -- The line for the state of the channel at this place, after that for its terminal.
  abbrev pub state_text : ℕ → List ℕ
  state_text place =
      presence_shown (way_at place) (terminal_at place) (shows station (terminal_at place))
      ++ named party station place ++ state_shown (end_at party station place)

  -- The lines that tell this: one, or two where also the state of a terminal is told.
  abbrev pub told_text : Told → List ℕ
  told_text (Kept number) = kept_text number
  told_text Done = codes "ok\n"
  told_text (Refused fault) = refused_text (fault_text fault)
  told_text (State place) = state_text place
  told_text (Arrived place number) =
      arrived_text (named party station place) number
      (record_at (end_at party station place) number)
  told_text (Delivered place known) = delivered_text (named party station place) known

  -- The lines that tell this were written, or none if nothing is told.
  abbrev pub IsWritten : Option Told → Result Bool PrintError → Option (List ℕ)
      → Option (List ℕ) → Type 0
  IsWritten None result old new = (result ≡ Ok false) × (new ≡ old)
  IsWritten (Some told) result old new =
      IfOk result (λ some. (some ≡ true) × Appends old new (told_text told))
