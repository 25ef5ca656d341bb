-- The rows of a trace: one for each of its lines.
use Rattle.std.specs.Prelude.{ℕ, List, ◌++◌, codes}
use Rattle.std.specs.List.{flat_map}
use Rattle.bsc_frame.specs.Reading.{heard}
use Rattle.bsc_frame.specs.Texts.{TextUnit}
use Rattle.bsc_frame.specs.declared.message.Heard.{Heard as HeardValue}
use Rattle.bsc_frame.specs.declared.message.Heard.TheVariants as message
use Rattle.bsc_trace.specs.Rows as row
use Rattle.bsc_trace.specs.Rows.{RowValue}
use Rattle.bsc_trace.specs.declared.ladder.row.Fate.{Fate}
use Rattle.bsc_trace.specs.declared.ladder.row.Fate.TheVariants.{Heard, Turned, Failed}
use Rattle.bsc_text.specs.Names.{name_of, units_of}
use Rattle.bsc_trace.specs.Lines.{TraceValue, transmission, silence, told}

-- A transmission that was heard, or that turned the line, and whose octets are no message, has
-- failed.
abbrev pub failed_fate : Fate → Fate
failed_fate Heard = Failed
failed_fate Turned = Failed
failed_fate fate = fate

-- What became of a transmission that is heard as this.
abbrev pub seen_fate : HeardValue → Fate → Fate
seen_fate (message.Whole m) fate = fate
seen_fate message.Failed fate = failed_fate fate
seen_fate message.Noise fate = failed_fate fate

-- A bar, and the characters of a record.
abbrev pub unit_note : TextUnit → List ℕ
unit_note unit = codes "|" ++ unit.chars

-- The characters of the records of a text, each after a bar.
abbrev pub note_of : HeardValue → List ℕ
note_of h = flat_map unit_note (units_of h)

-- The row for a line. For a transmission it is one arrow, with its time, from who sent it to who
-- heard it, with what became of it, its name, its records and its octets.
abbrev pub row_of : TraceValue → RowValue
row_of (transmission time course fate octets) =
    row.arrow time course (seen_fate (heard octets) fate) (name_of (heard octets))
    (note_of (heard octets)) octets
row_of (silence time) = row.silence time
row_of (told time mark text) = row.mark time mark text
