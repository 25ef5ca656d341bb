-- The ladder that the words of the command ask for.
use Rattle.std.specs.Prelude.{◌≡◌, ℕ, Bool, true, false, List, Option, Some, None, Result, Ok, Err}
use Rattle.std.specs.Prelude.{if◌then◌else◌, unwrap_or}
use Rattle.std.specs.Option.{option_and_then}
use Rattle.bsc_options.specs.ChartWords.{AskedChart}
use Rattle.bsc_trace.specs.declared.ladder.glyphs.Style.{Style}
use Rattle.bsc_trace.specs.declared.ladder.glyphs.Style.TheVariants.{Boxes, Ascii}
use Rattle.bsc_options.specs.Numbers.{number_within}
use Rattle.bsc_chart.specs.Inputs.{HasStopped}
use Rattle.bsc_chart.specs.declared.drawing.Drawing.{Drawing}
use Rattle.bsc_chart.specs.declared.drawing.Form.{Form}
use Rattle.bsc_chart.specs.declared.drawing.Form.TheVariants.{Text, Svg, Html}
use Rattle.bsc_chart.specs.declared.drawing.Range.{Range}
use Rattle.bsc_chart.specs.declared.error.ChartError.{ChartError}
use Rattle.bsc_chart.specs.declared.error.ChartError.TheVariants.{Forms, Width, Lines}

abbrev pub style_of : Bool → Style
style_of ascii = if ascii then Ascii else Boxes

-- The form that is asked for: a text if it is none.
abbrev pub form_of : Bool → Bool → Bool → Result Form ChartError
form_of text false false = Ok Text
form_of false true false = Ok Svg
form_of false false true = Ok Html
form_of _ _ _ = Err Forms

abbrev pub width_from : Option ℕ → Result ℕ ChartError
width_from (Some width) = Ok width
width_from None = Err Width

-- The width if none is given: that of the terminal, if it is told and from 40 to 1000, or 80.
abbrev pub width_on : Option (List ℕ) → ℕ
width_on columns = unwrap_or (option_and_then (number_within 40 1000) columns) 80

-- The width that was given, from 40 to 1000; if none was, this one.
abbrev pub width_of : ℕ → Option (List ℕ) → Result ℕ ChartError
width_of width None = Ok width
width_of width (Some text) = width_from (number_within 40 1000 text)

abbrev pub line_from : Option ℕ → Result ℕ ChartError
line_from (Some line) = Ok line
line_from None = Err Lines

-- The number of a line that was given: this one if none was.
abbrev pub line_of : ℕ → Option (List ℕ) → Result ℕ ChartError
line_of least None = Ok least
line_of least (Some text) = line_from (number_within 1 18446744073709551615 text)

abbrev pub range_with : Result ℕ ChartError → Result ℕ ChartError → Result Range ChartError
range_with (Err error) last = Err error
range_with (Ok first) (Err error) = Err error
range_with (Ok first) (Ok last) = Ok (record { first = first; last = last })

-- The lines that are drawn: all of them if neither the first nor the last was given.
abbrev pub range_of : Option (List ℕ) → Option (List ℕ) → Result Range ChartError
range_of first last = range_with (line_of 1 first) (line_of 18446744073709551615 last)

-- A drawing of these parts, or the first error.
abbrev pub drawing_with : Style → Result Form ChartError → Result ℕ ChartError
    → Result Range ChartError → Result Drawing ChartError
drawing_with style (Err error) width range = Err error
drawing_with style (Ok form) (Err error) range = Err error
drawing_with style (Ok form) (Ok width) (Err error) = Err error
drawing_with style (Ok form) (Ok width) (Ok range) =
    Ok (record { form = form; style = style; width = width; range = range })

-- How the words ask to draw on a terminal of which this width is told.
abbrev pub drawing_of : Option (List ℕ) → AskedChart → Result Drawing ChartError
drawing_of columns words =
    drawing_with (style_of words.ascii) (form_of words.text words.svg words.html)
    (width_of (width_on columns) words.width) (range_of words.from words.to)

-- The errors of the words, before anything is read or written.
abbrev pub IsEarly : ChartError → Type 0
IsEarly Forms = Unit {0}
IsEarly Width = Unit {0}
IsEarly Lines = Unit {0}
IsEarly error = ⊥

-- What an error says of the words, of the input and of the output.
abbrev pub HasFailed : Result Drawing ChartError → ChartError → List ℕ → Option (List ℕ)
    → Option (List ℕ) → Type 0
HasFailed (Err why) error input old new = error ≡ why
HasFailed (Ok drawing) error input old new = HasStopped drawing error input old new
