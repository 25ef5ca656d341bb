-- Whole sessions of a client: what it says, what it is told, and what becomes of the station.
use Rattle.std.specs.Prelude.{◌≡◌, ℕ, ◌+◌, nat_eq, Bool, true, false, List, [], ◌∷◌, ◌++◌}
use Rattle.std.specs.Prelude.{length}
use Rattle.std.specs.Prelude.{take, drop, filter, map, Option, Some, None, Result, Ok}
use Rattle.std.specs.Prelude.{slice_get, if◌then◌else◌}
use Rattle.bsc_station.specs.Ends.{receiving}
use Rattle.bsc_station.specs.declared.party.Party as party_of
use Rattle.bsc_feed.specs.declared.client.Client.{Client}
use Rattle.bsc_feed.specs.declared.fault.Fault.{Fault}
use Rattle.bsc_feed.specs.declared.told.Told.{Told}
use Rattle.bsc_feed.specs.declared.told.Told.TheVariants.{Arrived}
use Rattle.bsc_feed.specs.Answering.{Serving, asked_of}
use Rattle.bsc_feed.specs.Clients.{IsNew, Nexts, TakesOctets, is_answered}
use Rattle.bsc_feed.specs.Commands.{Asked, follow}
use Rattle.bsc_feed.specs.Lines.{AreLines, kept_of, line_of}
use Rattle.bsc_feed.specs.Places.{end_at}
use Rattle.bsc_feed.specs.Texts.{record_at}

-- One thing that happened between a client and a station.
pub data Event (S : Type 0) : Type 0 where
  -- these octets of the client were taken
  Took : (octets : List ℕ) → Event S
  -- the line of which this is kept was obeyed; the station before and after it
  Obeyed : (line : List ℕ) (before after : S) → Event S
  -- more of the answer to `status` was told
  Continued : Event S
  -- this happened on a channel that is followed, or nothing; the station as it was told of
  News : (told : Option Told) (station : S) → Event S
  -- the station changed by itself, as the line runs
  Moved : (before after : S) → Event S

-- What the next step of a client is: by how far an answer is told, and whether a line waits.
abbrev pub step_by : {S : Type 0} → Option ℕ → Bool → List ℕ → S → Option Told → S → Event S
step_by (Some place) waits line before told after = Continued
step_by None true line before told after = Obeyed line before after
step_by None false line before told after = News told before

abbrev pub step_of : {S : Type 0} → Client → S → Option Told → S → Event S
step_of old before told after =
    step_by old.telling old.waits old.lines.ended before told after

-- What is known of a station with memory of type M, and what it does for clients.
module _ {S M : Type 0} (party : party_of.Ghosts S M) (serves : Serving S) where
  -- A client and a station go through these events, in order.
  pub data Session : Client → S → List (Event S) → Client → S → Type 0 where
    ended : {client : Client} {station : S} → Session client station [] client station
    takes : {old mid new : Client} {before after : S} {events : List (Event S)}
        (octets : List ℕ) (taken : ℕ) → TakesOctets old octets taken mid
        → Session mid before events new after
        → Session old before (Took (take taken octets) ∷ events) new after
    tells : {old mid new : Client} {before between after : S} {events : List (Event S)}
        (told : Option Told) → Nexts party serves old before told mid between
        → Session mid between events new after
        → Session old before (step_of old before told between ∷ events) new after
    moves : {old new : Client} {before between after : S} {events : List (Event S)}
        → Session old between events new after
        → Session old before (Moved before between ∷ events) new after

-- The octets that were taken in an event.
abbrev pub octets_of_event : {S : Type 0} → Event S → List ℕ
octets_of_event (Took octets) = octets
octets_of_event _ = []

-- The octets that were taken, in order.
abbrev pub octets_in : {S : Type 0} → List (Event S) → List ℕ
octets_in [] = []
octets_in (event ∷ more) = octets_of_event event ++ octets_in more

-- The line that was obeyed in an event.
abbrev pub line_of_event : {S : Type 0} → Event S → List (List ℕ)
line_of_event (Obeyed line before after) = line ∷ []
line_of_event _ = []

-- The lines that were obeyed, in order.
abbrev pub lines_in : {S : Type 0} → List (Event S) → List (List ℕ)
lines_in [] = []
lines_in (event ∷ more) = line_of_event event ++ lines_in more

-- Whether a line is heeded: it is not skipped.
abbrev pub is_heeded : List ℕ → Bool
is_heeded line = is_answered (line_of line)

-- The line that waits for its answer, if one does.
abbrev pub waiting_of : Client → List (List ℕ)
waiting_of client = if client.waits then client.lines.ended ∷ [] else []

-- In a session from the start, the lines that were obeyed, and the one that waits, are all lines of
-- the client that are not skipped, each once and in order; a half line is not one of them.
abbrev pub ObeysEachLine : {S M : Type 0} → party_of.Ghosts S M → Serving S → Type 0
ObeysEachLine {S} {M} party serves =
    (old new : Client) (before after : S) (events : List (Event S)) → IsNew old
    → Session party serves old before events new after
    → (lines : List (List ℕ)) × (half : List ℕ) × AreLines (octets_in events) lines half
    × (filter is_heeded (map kept_of lines) ≡ lines_in events ++ waiting_of new)

-- Where no line waits, the station is as it was, whatever is told.
abbrev pub ChangesByLines : {S M : Type 0} → party_of.Ghosts S M → Serving S → Type 0
ChangesByLines {S} {M} party serves =
    (old new : Client) (before after : S) (told : Option Told) → old.waits ≡ false
    → Nexts party serves old before told new after → after ≡ before

-- A line that does not ask for a channel to be followed.
abbrev pub IsNoFollow : Result Asked Fault → Type 0
IsNoFollow (Ok (follow channel from)) = ⊥
IsNoFollow _ = Unit {0}

-- A record with its number.
pub record Numbered : Type 0 where
  pub number : ℕ
  pub chars : List ℕ

-- Records with their numbers, of which the first has this one.
abbrev pub numbered_from : ℕ → List (List ℕ) → List Numbered
numbered_from n [] = []
numbered_from n (chars ∷ more) = record { number = n; chars = chars } ∷ numbered_from (n + 1) more

-- What is known of a station with memory of type M, and the place of a channel.
module _ {S M : Type 0} (party : party_of.Ghosts S M) (place : ℕ) where
  -- These records had arrived on the channel before, and these now.
  pub record HasArrived (station : S) (records : List (List ℕ)) : Type 0 where
    pub is : end_at party station place ≡ Some (receiving records)

  -- Nothing that had arrived on the channel is lost, and what arrives comes after it.
  abbrev pub Grows : S → S → Type 0
  Grows before after =
      (records : List (List ℕ)) → HasArrived before records
      → (more : List (List ℕ)) × HasArrived after (records ++ more)

  -- In this event the channel is not asked for anew, and what had arrived on it stays.
  abbrev pub IsFollowedOn : Event S → Type 0
  IsFollowedOn (Obeyed line before after) =
      IsNoFollow (asked_of (line_of line)) × Grows before after
  IsFollowedOn (Moved before after) = Grows before after
  IsFollowedOn _ = Unit {0}

  -- The same in all of these events.
  abbrev pub AreFollowedOn : List (Event S) → Type 0
  AreFollowedOn [] = Unit {0}
  AreFollowedOn (event ∷ more) = IsFollowedOn event × AreFollowedOn more

  -- The record of the channel that was told, with its number.
  abbrev pub arrival_in : S → Option Told → List Numbered
  arrival_in station (Some (Arrived at number)) =
      if nat_eq at place
      then record { number = number; chars = record_at (end_at party station at) number } ∷ []
      else []
  arrival_in station _ = []

  -- The record of the channel that was told in an event, with its number.
  abbrev pub told_in_event : Event S → List Numbered
  told_in_event (News told station) = arrival_in station told
  told_in_event _ = []

  -- The records of the channel that were told, with their numbers, in order.
  abbrev pub told_in : List (Event S) → List Numbered
  told_in [] = []
  told_in (event ∷ more) = told_in_event event ++ told_in more

  -- In a session through which a channel on which the station receives is followed from a number
  -- on, what was told of it are the records from this number up to the one from which it is
  -- followed at the end, in order, each once: whether they had arrived before or arrived later.
  pub record TellsEach (old : Client) (events : List (Event S)) (new : Client) (after : S)
      (from : ℕ) : Type 0 where
    pub all : List (List ℕ)
    pub arrived : HasArrived after all
    pub told : List (List ℕ)
    pub are_told : told_in events ≡ numbered_from from told
    pub are_those : told ≡ take (length told) (drop from all)
    pub next : slice_get new.follows place ≡ Some (Some (from + length told))

-- The same, in every session.
abbrev pub TellsEachOnce : {S M : Type 0} → party_of.Ghosts S M → Serving S → Type 0
TellsEachOnce {S} {M} party serves =
    (old new : Client) (before after : S) (events : List (Event S)) (place from : ℕ)
    (records : List (List ℕ))
    → Session party serves old before events new after → AreFollowedOn party place events
    → HasArrived party place before records
    → slice_get old.follows place ≡ Some (Some from)
    → TellsEach party place old events new after from
