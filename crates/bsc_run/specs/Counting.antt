-- How far a run has come.
use Rattle.std.specs.Prelude.{ℕ, length}
use Rattle.bsc_bid.specs.Sender.{is_in_doubt}
use Rattle.bsc_bid.specs.declared.way.Way.{Way}
use Rattle.bsc_bid.specs.declared.way.Way.TheVariants.{FromTerminal, ToTerminal}
use Rattle.bsc_line_model.specs.Line.{LineValue, terminal_count, channel_of, phase_of}
use Rattle.bsc_line_model.specs.Offers.{select_count}
use Rattle.bsc_text.specs.Counts.{both, counted, counts_of, doubts_of}
use Rattle.bsc_text.specs.declared.progress.counts.Counts.{Counts}

-- The counts of a channel: what its sending end knows, and what arrived at the other.
abbrev pub channel_counts : LineValue → ℕ → Way → Counts
channel_counts l t way =
    both (counts_of 0 (channel_of l t way).known 0 (doubts_of (is_in_doubt (phase_of l t way))))
    (counts_of 0 0 (length (channel_of l t way).spooled) 0)

-- The counts of the channels of a terminal.
abbrev pub terminal_counts : LineValue → ℕ → Counts
terminal_counts l t =
    counted (channel_counts l t FromTerminal) (λ s. channel_counts l t (ToTerminal s))
    (select_count l t)

-- The counts of a line on which this many events were performed.
abbrev pub line_counts : ℕ → LineValue → Counts
line_counts events l = counted (counts_of events 0 0 0) (terminal_counts l) (terminal_count l)
