-- The records that arrive at a station are printed a few at a time.
use Rattle.std.specs.Prelude.{◌≡◌, ℕ, zero, suc, ◌+◌, ◌-◌, ◌<◌, List, length, take, drop, min}
use Rattle.std.specs.Prelude.{slice_index}
use Rattle.bsc_text.specs.Channels.{channel_name}
use Rattle.bsc_report.specs.Arrivals.{arrived_on}
use Rattle.bsc_report.specs.Printed.{lines_from}
use Rattle.bsc_report.specs.declared.record_lines.RecordLines.{RecordLines}
use Rattle.bsc_station.specs.declared.party.Party as party_of

-- What is known of a station with memory of type M, and the station. Its channels are those on
-- which it receives, each with a number.
module _ {P M : Type 0} (party : party_of.Ghosts P M) (station : P) where
  -- How many records of a channel are not printed, if this many are.
  abbrev pub unprinted_on : ℕ → ℕ → ℕ
  unprinted_on n printed = length (arrived_on party station n) - printed

  -- How many more records may be printed after those of the first channels, this many, if at most
  -- `most` are printed of all: by the number printed before on each.
  abbrev pub left_after : List ℕ → ℕ → ℕ → ℕ
  left_after printed most zero = most
  left_after printed most (suc n) =
      left_after printed most n - unprinted_on n (slice_index printed n)

  -- How many records of a channel are printed: all, or as many as may be.
  abbrev pub share_of : List ℕ → ℕ → ℕ → ℕ
  share_of printed most n =
      min (unprinted_on n (slice_index printed n)) (left_after printed most n)

  -- The lines for records of a channel, this many, after those that were printed before.
  abbrev pub next_lines : RecordLines → ℕ → ℕ → ℕ → List ℕ
  next_lines lines n printed count =
      lines_from lines
      (channel_name (party.selects station (party.terminal_of n))
      (party.numbers station (party.terminal_of n)) (party.way_of n)) printed
      (take count (drop printed (arrived_on party station n)))

  -- The lines for the records of a channel that are printed.
  abbrev pub some_lines : RecordLines → List ℕ → ℕ → ℕ → List ℕ
  some_lines lines printed most n =
      next_lines lines n (slice_index printed n) (share_of printed most n)

  -- They are counted, for each of the first channels.
  abbrev pub AreSomeCounted : List ℕ → ℕ → List ℕ → ℕ → Type 0
  AreSomeCounted old most new count =
      (n : ℕ) → n < count → slice_index new n ≡ slice_index old n + share_of old most n
