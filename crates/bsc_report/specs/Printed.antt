-- The output of a station: the records that arrive, and the report at the end.
use Rattle.std.specs.Prelude.{ℕ, suc, Bool, if◌then◌else◌, List, [], ◌∷◌, ◌++◌, length, drop, codes}
use Rattle.std.specs.Prelude.{Option, Some, None}
use Rattle.std.specs.List.{flat_map}
use Rattle.std.specs.Fmt.{decimal}
use Rattle.bsc_bid.specs.declared.way.Way.{Way}
use Rattle.bsc_bid.specs.declared.way.Way.TheVariants.{FromTerminal, ToTerminal}
use Rattle.bsc_text.specs.Forms.{in_form}
use Rattle.bsc_text.specs.declared.form.Form.{Form}
use Rattle.bsc_text.specs.Channels.{channel_name, doubt_shown, each_below, record_line}
use Rattle.bsc_station.specs.Ends.{End, sending, receiving}
use Rattle.bsc_report.specs.declared.record_lines.RecordLines.{RecordLines}

-- The lines for records in a form; none without a form.
abbrev pub repeated_lines : Option Form → List (List ℕ) → List ℕ
repeated_lines None records = []
repeated_lines (Some form) records = flat_map (record_line form) records

-- The state of a channel at its end, with the records that arrived if they are repeated.
abbrev pub end_shown : Option Form → End → List ℕ
end_shown form (sending offered known doubt) =
    codes ": offered " ++ decimal offered ++ codes ", known " ++ decimal known ++ doubt_shown doubt
end_shown form (receiving records) =
    codes ": spooled " ++ decimal (length records) ++ codes "\n" ++ repeated_lines form records

-- The lines for a channel of terminal t, which has this number of selection addresses.
abbrev pub channel_lines : Option Form → ℕ → ℕ → (Way → End) → Way → List ℕ
channel_lines form count t ends way = channel_name count t way ++ end_shown form (ends way)

-- The lines for terminal t: the channel from it, and then those to it.
abbrev pub terminal_lines : Option Form → ℕ → ℕ → (Way → End) → List ℕ
terminal_lines form count t ends =
    channel_lines form count t ends FromTerminal
    ++ each_below (λ s. channel_lines form count t ends (ToTerminal s)) count

-- The report of a station that knows the channels of this number of terminals, with the records
-- that arrived in a form, or without them.
abbrev pub station_report :
    Option Form → (ℕ → ℕ) → (ℕ → ℕ) → (ℕ → Way → End) → ℕ → List ℕ
station_report form selects numbers ends count =
    each_below (λ t. terminal_lines form (selects t) (numbers t) (ends t)) count

-- The number of a record in its line, if lines have numbers.
abbrev pub number_shown : Bool → ℕ → List ℕ
number_shown numbers place = if numbers then codes " " ++ decimal place else []

-- The line for the record with this number on the channel with this name.
abbrev pub arrival_line : RecordLines → List ℕ → ℕ → List ℕ → List ℕ
arrival_line lines name place chars =
    name ++ number_shown lines.numbers place ++ codes ": " ++ in_form lines.form chars ++ codes "\n"

-- The records that arrived at a channel end.
abbrev pub records_at : End → List (List ℕ)
records_at (sending offered known doubt) = []
records_at (receiving records) = records

-- The lines for records, of which the first has this number on the channel with this name.
abbrev pub lines_from : RecordLines → List ℕ → ℕ → List (List ℕ) → List ℕ
lines_from lines name place [] = []
lines_from lines name place (r ∷ rs) =
    arrival_line lines name place r ++ lines_from lines name (suc place) rs

-- The lines for the records after the first `printed` ones, on the channel with this name.
abbrev pub arrival_lines : RecordLines → List ℕ → ℕ → List (List ℕ) → List ℕ
arrival_lines lines name printed records = lines_from lines name printed (drop printed records)
