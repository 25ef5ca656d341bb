-- How far a station has come.
use Rattle.std.specs.Prelude.{ℕ, length}
use Rattle.bsc_bid.specs.declared.way.Way.{Way}
use Rattle.bsc_bid.specs.declared.way.Way.TheVariants.{FromTerminal, ToTerminal}
use Rattle.bsc_text.specs.Counts.{counted, counts_of, doubts_of}
use Rattle.bsc_text.specs.declared.progress.counts.Counts.{Counts}
use Rattle.bsc_station.specs.Ends.{End, sending, receiving}

-- The counts of a channel: what is known at its sending end, or arrived at its receiving end.
abbrev pub counts_at : End → Counts
counts_at (sending offered known doubt) = counts_of 0 known 0 (doubts_of doubt)
counts_at (receiving records) = counts_of 0 0 (length records) 0

-- The counts of the channels of a terminal.
abbrev pub terminal_counts : ℕ → (Way → End) → Counts
terminal_counts count ends =
    counted (counts_at (ends FromTerminal)) (λ s. counts_at (ends (ToTerminal s))) count

-- The counts of a station that has done this many events or rounds.
abbrev pub station_counts : ℕ → (ℕ → ℕ) → (ℕ → Way → End) → ℕ → Counts
station_counts done selects ends count =
    counted (counts_of done 0 0 0) (λ t. terminal_counts (selects t) (ends t)) count
