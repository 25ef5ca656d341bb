-- The lines of a trace as values.
use Rattle.std.specs.Prelude.{ℕ, ◌==◌, List, [], ◌∷◌, codes, Option, Some, None, option_map}
use Rattle.std.specs.Prelude.{if◌then◌else◌}
use Rattle.std.specs.Option.{option_and_then}
use Rattle.std.specs.Str.{bytes_eq}
use Rattle.bsc_text.specs.Hexadecimal.{octets_of}
use Rattle.bsc_text.specs.InputLines.{is_blank}
use Rattle.bsc_text.specs.Parts.{after_octet, before_octet, parts_at}
use Rattle.bsc_trace.specs.declared.ladder.row.Course.{Course}
use Rattle.bsc_trace.specs.declared.ladder.row.Fate.{Fate}
use Rattle.bsc_trace.specs.declared.ladder.row.Mark.{Mark}
use Rattle.bsc_trace.specs.NamingLines.{last_part}
use Rattle.bsc_trace.specs.Marks.{MarkedValue, marked_of}
use Rattle.bsc_trace.specs.Speaking.{SpokenValue, spoken_of}
use Rattle.bsc_trace.specs.Words.{is_time}
use Rattle.bsc_trace.specs.declared.line.TraceLine.{TraceLine}
use Rattle.bsc_trace.specs.declared.line.TraceLine.TheVariants as line

-- A line of a trace: a transmission with its time, its course, its fate and its octets; a silence
-- with its time; or anything else that was told, with its time, its mark and its text.
pub data TraceValue : Type 0 where
  transmission : List ℕ → Course → Fate → List ℕ → TraceValue
  silence : List ℕ → TraceValue
  told : List ℕ → Mark → List ℕ → TraceValue

-- The value of a line.
abbrev pub value_in : {A : Type 0} → TraceLine A → TraceValue
value_in (line.Transmission time course fate octets) =
    transmission time.now course fate octets.items
value_in (line.Silence time) = silence time.now
value_in (line.Told time mark text) = told time.now mark text.now

-- The octets that a word gives: hexadecimal text, or `-` for none.
abbrev pub octets_given : List ℕ → Option (List ℕ)
octets_given word =
    if bytes_eq word (codes "-") then Some []
    else (if is_blank word then None else octets_of word)

-- A transmission at this time, if the last word gives its octets.
abbrev pub transmission_at : List ℕ → SpokenValue → Option TraceValue
transmission_at time spoken =
    option_map (transmission time spoken.course spoken.fate)
    (octets_given (last_part (parts_at 32 spoken.rest)))

-- This mark at this time.
abbrev pub told_at : List ℕ → MarkedValue → TraceValue
told_at time m = told time m.mark m.text

-- What was told at this time, if it is no transmission: a silence, or something else.
abbrev pub other_at : List ℕ → List ℕ → TraceValue
other_at time text =
    if bytes_eq text (codes "silence") then silence time else told_at time (marked_of text)

-- What was told at this time.
abbrev pub value_told : List ℕ → List ℕ → Option SpokenValue → Option TraceValue
value_told time text None = Some (other_at time text)
value_told time text (Some spoken) = transmission_at time spoken

-- What a text after `+` tells: a time, a space, and what was told at that time.
abbrev pub value_after : List ℕ → List ℕ → Option TraceValue
value_after time text = if is_time time then value_told time text (spoken_of text) else None

abbrev pub value_timed : List ℕ → Option TraceValue
value_timed text = option_and_then (value_after (before_octet 32 text)) (after_octet 32 text)

-- The value of the text of a line; none if it is no line of a trace.
abbrev pub value_of : List ℕ → Option TraceValue
value_of [] = None
value_of (sign ∷ text) = if sign == 43 then value_timed text else None
