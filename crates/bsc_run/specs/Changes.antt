-- The lines of the trace that compare the line before and after an event: the records that landed,
-- each doubt that begins, and the end of trust.
use Rattle.std.specs.Prelude.{ℕ, zero, suc, Bool, not, ◌&&◌, if◌then◌else◌, List, [], ◌∷◌, ◌++◌}
use Rattle.std.specs.Prelude.{length, drop, codes}
use Rattle.std.specs.List.{flat_map}
use Rattle.std.specs.Fmt.{decimal}
use Rattle.bsc_bid.specs.Sender.{is_in_doubt}
use Rattle.bsc_bid.specs.declared.way.Way.{Way}
use Rattle.bsc_bid.specs.declared.way.Way.TheVariants.{FromTerminal, ToTerminal}
use Rattle.bsc_line_model.specs.declared.event.Event.{Event}
use Rattle.bsc_line_model.specs.Line.{LineValue, terminal_count, channel_of, phase_of}
use Rattle.bsc_line_model.specs.Offers.{select_count}
use Rattle.bsc_text.specs.Traces.{told_line}
use Rattle.bsc_config.specs.Events.{Event as Asked}
use Rattle.bsc_run.specs.declared.standing.ChannelStanding.{ChannelStanding}
use Rattle.bsc_run.specs.Traces.{doubt_of, lines_of, place_shown, record_shown}

-- What the trace has to know of a channel from before an event.
abbrev pub standing_on : LineValue → ℕ → Way → ChannelStanding
standing_on l t way =
    record {
      terminal = t;
      way = way;
      arrived = length (channel_of l t way).spooled;
      doubt = is_in_doubt (phase_of l t way);
    }

-- The same of the channels to the first n selection addresses of a terminal.
abbrev pub standings_to : LineValue → ℕ → ℕ → List ChannelStanding
standings_to l t zero = []
standings_to l t (suc n) = standings_to l t n ++ standing_on l t (ToTerminal n) ∷ []

-- The same of the channels of a terminal: the one from it, and then those to it.
abbrev pub standing_at : LineValue → ℕ → List ChannelStanding
standing_at l t = standing_on l t FromTerminal ∷ [] ++ standings_to l t (select_count l t)

-- The same of the channels of the first n terminals.
abbrev pub standings_below : LineValue → ℕ → List ChannelStanding
standings_below l zero = []
standings_below l (suc n) = standings_below l n ++ standing_at l n

-- The same of all channels, in the order of the report.
abbrev pub standings_of : LineValue → List ChannelStanding
standings_of l = standings_below l (terminal_count l)

-- The receiving end of a channel.
abbrev pub end_shown : ℕ → Way → List ℕ
end_shown t FromTerminal = codes "from " ++ decimal t
end_shown t (ToTerminal s) = codes "to " ++ place_shown t s

-- The line for a record that landed.
abbrev pub landed_line : ℕ → ℕ → Way → List ℕ → List ℕ
landed_line n t way r =
    told_line n (codes "arrived " ++ end_shown t way ++ codes ": " ++ record_shown r)

-- The line for a doubt that begins.
abbrev pub doubt_line : ℕ → ℕ → Way → List ℕ
doubt_line n t way = told_line n (doubt_of t way ++ codes " begins")

-- The text for something that holds now and did not hold before.
abbrev pub if_begins : Bool → Bool → List ℕ → List ℕ
if_begins before now text = if not before && now then text else []

-- The lines for the records of a channel that landed since, and for its doubt if it began since.
abbrev pub channel_changes : ℕ → LineValue → ChannelStanding → List ℕ
channel_changes n new before =
    flat_map (landed_line n before.terminal before.way)
    (drop before.arrived (channel_of new before.terminal before.way).spooled)
    ++ if_begins before.doubt (is_in_doubt (phase_of new before.terminal before.way))
    (doubt_line n before.terminal before.way)

-- The line for the end of trust.
abbrev pub trust_changes : ℕ → Bool → Bool → List ℕ
trust_changes n before now =
    if before && not now then told_line n (codes "the line is no longer trusted") else []

-- The lines for what changed since, by what is known of the channels and of trust from before.
abbrev pub changes_since : ℕ → List ChannelStanding → Bool → LineValue → List ℕ
changes_since n channels trusted new =
    flat_map (channel_changes n new) channels ++ trust_changes n trusted new.trusted

-- The lines for what changed between two lines.
abbrev pub changes : ℕ → LineValue → LineValue → List ℕ
changes n old new = changes_since n (standings_of old) old.trusted new

-- All lines of the trace for an accepted event of a script, which is this event of the line: what
-- it is, and then what changed.
abbrev pub event_lines : ℕ → Asked → Event → LineValue → LineValue → List ℕ
event_lines n asked e old new = lines_of n asked e old ++ changes n old new
