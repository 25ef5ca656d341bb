-- What a step of a station has changed of its records since what is kept of them.
use Rattle.std.specs.Prelude.{ℕ, nat_eq, nat_lt, ◌&&◌, List, [], ◌∷◌, ◌++◌, length, map, drop, max}
use Rattle.std.specs.Prelude.{◌^◌, Option, Some, None, Result, Ok, Err, if◌then◌else◌}
use Rattle.std.specs.List.{flat_map}
use Rattle.bsc_bid.specs.declared.kept.KeptSender.{KeptSender}
use Rattle.bsc_spool.specs.declared.fault.StoreFault.{StoreFault}
use Rattle.bsc_spool.specs.declared.fault.StoreFault.TheVariants.{Refused}
use Rattle.bsc_spool.specs.declared.change.Change.{Change}
use Rattle.bsc_spool.specs.declared.change.Change.TheVariants.{Known, Arrived, Printed}
use Rattle.bsc_report.specs.Arrivals.{arrived_on}
use Rattle.bsc_station.specs.declared.party.Party as party_of
use Rattle.bsc_spool.specs.declared.ends.Sending.{Sending}
use Rattle.bsc_spool.specs.declared.ends.Receiving.{Receiving}

-- A number as a store keeps it, which is one of 32 bits.
abbrev pub number_kept : ℕ → Result ℕ StoreFault
number_kept count = if nat_lt count (2 ^ 32) then Ok count else Err Refused

-- How many records are unanswered or in doubt.
abbrev pub in_doubt_of : Option ℕ → ℕ
in_doubt_of None = 0
in_doubt_of (Some k) = k

-- What is to be kept of a channel on which the station sends, if that is another than is kept.
abbrev pub known_changes : Sending → Option KeptSender → List Change
known_changes end None = []
known_changes end (Some k) =
    if nat_eq k.known end.known && nat_eq (in_doubt_of k.doubt) end.in_doubt then []
    else Known end.channel k.known (in_doubt_of k.doubt) ∷ []

-- The end of the channel once that is kept.
abbrev pub known_now : Sending → Option KeptSender → Sending
known_now end None = end
known_now end (Some k) = record end { known = k.known; in_doubt = in_doubt_of k.doubt }

-- How many records were printed of a channel on which the station receives, if that is another
-- number than is kept.
abbrev pub printed_changes : Receiving → Option ℕ → List Change
printed_changes end None = []
printed_changes end (Some count) =
    if nat_eq count end.printed then [] else Printed end.channel count ∷ []

-- The records that have arrived on a channel after those that are kept.
abbrev pub arrived_changes : Receiving → List (List ℕ) → List Change
arrived_changes end records = map (Arrived end.channel) (drop end.arrived records)

abbrev pub printed_or : ℕ → Option ℕ → ℕ
printed_or kept None = kept
printed_or kept (Some count) = count

-- How many records are kept as printed of a channel on which the station receives; none if there is
-- no such channel.
abbrev pub printed_of : Option Receiving → ℕ
printed_of None = 0
printed_of (Some end) = end.printed

-- The end of the channel once both are kept.
abbrev pub received_now : Receiving → Option ℕ → List (List ℕ) → Receiving
received_now end printed records =
    record end {
      arrived = max end.arrived (length records);
      printed = printed_or end.printed printed;
    }

-- What a station says is to be kept of the channels on which it sends.
module _ {P : Type 0} (kept_at : P → ℕ → ℕ → Option KeptSender) (station : P) where
  abbrev pub sending_changes : Sending → List Change
  sending_changes end = known_changes end (kept_at station end.terminal end.select)

  -- The ends once that is kept.
  abbrev pub sending_now : List Sending → List Sending
  sending_now ends =
      map (λ (end : Sending). known_now end (kept_at station end.terminal end.select)) ends

-- What is known of a station with memory of type M, and how many records of each channel on which
-- it receives were printed.
module _ {P M : Type 0} (party : party_of.Ghosts P M) (station : P) (printed : ℕ → Option ℕ) where
  -- The records that arrived on the channel with this number; none if there is no such channel.
  abbrev pub records_of : ℕ → List (List ℕ)
  records_of number =
      if nat_lt number (party.receives station) then arrived_on party station number else []

  abbrev pub receiving_changes : Receiving → List Change
  receiving_changes end =
      printed_changes end (printed end.number) ++ arrived_changes end (records_of end.number)

  -- The ends once that is kept.
  abbrev pub receiving_now : List Receiving → List Receiving
  receiving_now ends =
      map
      (λ (end : Receiving). received_now end (printed end.number) (records_of end.number)) ends

  -- All that the station has changed since what is kept.
  abbrev pub changes_of : (P → ℕ → ℕ → Option KeptSender) → List Sending → List Receiving
      → List Change
  changes_of kept_at sending receiving =
      flat_map (sending_changes kept_at station) sending ++ flat_map receiving_changes receiving
