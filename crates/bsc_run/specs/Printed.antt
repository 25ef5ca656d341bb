-- The text printed for a line: the pending transmission while a script runs, and the report at the
-- end.
use Rattle.std.specs.Prelude.{ℕ, Bool, if◌then◌else◌, List, ◌++◌, length, Option, None, Some}
use Rattle.std.specs.Prelude.{codes}
use Rattle.std.specs.List.{flat_map}
use Rattle.std.specs.Fmt.{decimal}
use Rattle.bsc_frame.specs.declared.message.Heard.TheVariants.{Whole}
use Rattle.bsc_text.specs.Names.{name_line}
use Rattle.bsc_text.specs.declared.form.Form.TheVariants.{Hexadecimal}
use Rattle.bsc_text.specs.Channels.{channel_name, doubt_shown, record_line, each_below}
use Rattle.bsc_text.specs.Traces.{who_shown}
use Rattle.bsc_text.specs.declared.trace.Who.TheVariants.{Station}
use Rattle.bsc_bid.specs.Channel.{Channel}
use Rattle.bsc_bid.specs.Sender.{is_in_doubt}
use Rattle.bsc_bid.specs.declared.way.Way.{Way}
use Rattle.bsc_bid.specs.declared.way.Way.TheVariants.{FromTerminal, ToTerminal}
use Rattle.bsc_line_model.specs.declared.transmission.Transmission.{Transmission}
use Rattle.bsc_line_model.specs.Line.{LineValue, terminal_count, channel_of, phase_of}
use Rattle.bsc_line_model.specs.Offers.{select_count}

-- The line for the pending transmission: its sender and the name of its message, or that none is
-- pending.
abbrev pub pending_line : Option Transmission → List ℕ
pending_line None = codes "quiet\n"
pending_line (Some sent) =
    who_shown (Station sent.speaker) ++ codes " " ++ name_line (Whole sent.message)

-- The numbers of records that are offered, known and spooled on a channel.
abbrev pub counts_shown : Channel → List ℕ
counts_shown c =
    codes ": offered " ++ decimal (length c.offered) ++ codes ", known " ++ decimal c.known
    ++ codes ", spooled " ++ decimal (length c.spooled)

-- The lines for a channel: its counts, and the records that arrived.
abbrev pub channel_lines : LineValue → ℕ → Way → List ℕ
channel_lines l t way =
    channel_name (select_count l t) t way ++ counts_shown (channel_of l t way)
    ++ doubt_shown (is_in_doubt (phase_of l t way))
    ++ flat_map (record_line Hexadecimal) (channel_of l t way).spooled

-- The lines for a terminal: the channel from it, and then those to it.
abbrev pub terminal_lines : LineValue → ℕ → List ℕ
terminal_lines l t =
    channel_lines l t FromTerminal
    ++ each_below (λ s. channel_lines l t (ToTerminal s)) (select_count l t)

-- The last line: whether the line is trusted.
abbrev pub trust_line : Bool → List ℕ
trust_line trusted = if trusted then codes "trusted\n" else codes "not trusted\n"

-- The report of a line.
abbrev pub report_of : LineValue → List ℕ
report_of l = each_below (terminal_lines l) (terminal_count l) ++ trust_line l.trusted
