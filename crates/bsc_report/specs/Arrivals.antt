-- The records that arrive at a station are printed once each.
use Rattle.std.specs.Prelude.{◌≡◌, ℕ, ◌<◌, List, length, max, slice_index}
use Rattle.bsc_bid.specs.declared.way.Way.{Way}
use Rattle.bsc_text.specs.Channels.{channel_name}
use Rattle.bsc_report.specs.declared.arrivals.ShownName.{ShownName}
use Rattle.bsc_report.specs.Printed.{arrival_lines, records_at}
use Rattle.bsc_report.specs.declared.record_lines.RecordLines.{RecordLines}
use Rattle.bsc_station.specs.declared.party.Party as party_of

-- What is known of a station with memory of type M, and the station. Its channels are those on
-- which it receives, each with a number.
module _ {P M : Type 0} (party : party_of.Ghosts P M) (station : P) where
  -- The records that have arrived on a channel.
  abbrev pub arrived_on : ℕ → List (List ℕ)
  arrived_on n = records_at (party.ends station (party.terminal_of n) (party.way_of n))

  -- The name of the channel of this terminal in this direction.
  abbrev pub channel_at : ℕ → Way → ShownName
  channel_at t way =
      record {
        addresses = party.selects station t;
        name = record { terminal = party.numbers station t; way = way };
      }

  -- The lines for the records of a channel after those that were printed before.
  abbrev pub channel_arrivals : RecordLines → ℕ → ℕ → List ℕ
  channel_arrivals lines n printed =
      arrival_lines lines
      (channel_name (party.selects station (party.terminal_of n))
      (party.numbers station (party.terminal_of n)) (party.way_of n)) printed (arrived_on n)

  -- The lines for the new records of a channel, by the number printed before on each.
  abbrev pub arrivals_of : RecordLines → List ℕ → ℕ → List ℕ
  arrivals_of lines printed n = channel_arrivals lines n (slice_index printed n)

  -- The number of records of a channel that are printed, once the new ones are.
  abbrev pub counted : ℕ → ℕ → ℕ
  counted n printed = max printed (length (arrived_on n))

  -- The number of printed records is updated for each of the first channels.
  abbrev pub AreCounted : List ℕ → List ℕ → ℕ → Type 0
  AreCounted old new count =
      (n : ℕ) → n < count → slice_index new n ≡ counted n (slice_index old n)

-- More records of some channel are printed than before.
pub record MoreArePrinted (old new : List ℕ) (count : ℕ) : Type 0 where
  pub channel : ℕ
  pub is_one : channel < count
  pub grew : slice_index old channel < slice_index new channel

-- For each channel the number of printed records is the same as before.
abbrev pub AsManyArePrinted : List ℕ → List ℕ → ℕ → Type 0
AsManyArePrinted old new count = (n : ℕ) → n < count → slice_index new n ≡ slice_index old n
