-- Once the records that arrived at a station are printed, each of them is.
use Rattle.std.proofs.Common.{◌≡◌, ℕ, ◌≤◌, length, arith, max, slice_index}
use Rattle.bsc_report.specs.Arrivals.{arrived_on}
use Rattle.bsc_station.specs.declared.party.Party as party_of
use Rattle.bsc_keeping.specs.Printed.{ArePrinted, Output, PrintsArrivals}

-- A count that is at least the number of records.
at_most_counted : (old arrived new : ℕ) → new ≡ max old arrived → arrived ≤ new
at_most_counted old arrived new is = omega (arith, is)

module _ {S Z : Type 0} (party : party_of.Ghosts S Z) where
  pub all_are_printed : (station : S) (old new : Output) → PrintsArrivals party station old new
      → ArePrinted party station new
  all_are_printed station old new prints channel below =
      at_most_counted (slice_index old.counts channel)
      (length (arrived_on party station channel)) (slice_index new.counts channel)
      (prints.counted channel below)
