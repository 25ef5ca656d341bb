-- What becomes of the lines of a trace: the rows of a text, or rows that are kept for a picture.
use Rattle.std.specs.Prelude.{◌≡◌, ℕ, ◌+◌, ◌&&◌, ◌||◌, nat_le, Bool, true, false, List, [], ◌∷◌}
use Rattle.std.specs.Prelude.{◌++◌, length, if◌then◌else◌}
use Rattle.std.specs.List.{filter}
use Rattle.bsc_trace.specs.Rows.{RowValue}
use Rattle.bsc_trace.specs.declared.ladder.row.Sign.{Sign}
use Rattle.bsc_trace.specs.declared.ladder.row.Sign.TheVariants.{Named}
use Rattle.bsc_chart.specs.Pictures.{IsPicture}
use Rattle.bsc_chart.specs.PictureRows.{rows_in}
use Rattle.bsc_chart.specs.SummaryPages.{IsPage}
use Rattle.bsc_chart.specs.Ladders.{IsLadder, columns_after}
use Rattle.bsc_chart.specs.Rows.{row_of}
use Rattle.bsc_chart.specs.declared.pages.Page.{Page}
use Rattle.bsc_chart.specs.declared.drawing.Drawing.{Drawing}
use Rattle.bsc_chart.specs.declared.drawing.Form.{Form}
use Rattle.bsc_chart.specs.declared.drawing.Form.TheVariants.{Text, Svg, Html}
use Rattle.bsc_chart.specs.declared.drawing.Range.{Range}
use Rattle.bsc_trace.specs.Lines.{TraceValue, transmission, silence, told}

-- What is known of the lines so far: the columns, the number of arrows that are kept, the addresses
-- of stations, and the rows.
pub record PageValue : Type 0 where
  pub columns : ℕ
  pub arrows : ℕ
  pub names : List RowValue
  pub rows : List RowValue

abbrev pub page_in : {A : Type 0} → Page A → PageValue
page_in page = record {
  columns = page.columns;
  arrows = page.arrows;
  names = rows_in page.names.items;
  rows = rows_in page.rows.items;
}

abbrev pub blank_page : PageValue
blank_page = record { columns = 0; arrows = 0; names = []; rows = [] }

-- Whether a page has as many arrows, rows or addresses of stations as can be kept.
abbrev pub is_full : PageValue → Bool
is_full page =
    nat_le 5000 page.arrows || nat_le 20000 (length page.rows) || nat_le 20000 (length page.names)

abbrev pub is_names : Sign → Bool
is_names Named = true
is_names sign = false

-- Whether a line tells the addresses of a station.
abbrev pub is_named : TraceValue → Bool
is_named (transmission time course fate octets) = false
is_named (silence time) = false
is_named (told time mark text) = is_names mark.sign

-- Whether a line with this number is drawn: it is in the range, or it tells the addresses of a
-- station.
abbrev pub is_drawn : Range → ℕ → TraceValue → Bool
is_drawn range number value =
    (nat_le range.first number && nat_le number range.last) || is_named value

abbrev pub arrow_count : TraceValue → ℕ
arrow_count (transmission time course fate octets) = 1
arrow_count (silence time) = 0
arrow_count (told time mark text) = 0

-- A page with more columns.
abbrev pub widened : PageValue → TraceValue → PageValue
widened page value = record page { columns = columns_after page.columns value }

-- A page on which the addresses of a station, or a row, are kept too.
abbrev pub with_name : PageValue → TraceValue → PageValue
with_name page value = record {
  columns = columns_after page.columns value;
  arrows = page.arrows;
  names = page.names ++ row_of value ∷ [];
  rows = page.rows;
}

abbrev pub with_row : PageValue → TraceValue → PageValue
with_row page value = record {
  columns = columns_after page.columns value;
  arrows = page.arrows + arrow_count value;
  names = page.names;
  rows = page.rows ++ row_of value ∷ [];
}

abbrev pub with_kept : PageValue → TraceValue → PageValue
with_kept page value = if is_named value then with_name page value else with_row page value

-- A page after a line that is drawn.
abbrev pub page_with : Form → PageValue → TraceValue → PageValue
page_with Text page value = widened page value
page_with Svg page value = with_kept page value
page_with Html page value = with_kept page value

-- A page after these lines.
abbrev pub page_by : Form → PageValue → List TraceValue → PageValue
page_by form page [] = page
page_by form page (value ∷ values) = page_by form (page_with form page value) values

-- The values of a line with this number, if it is drawn. A line has no value if it is skipped or
-- passed over.
abbrev pub drawn_at : Range → ℕ → List TraceValue → List TraceValue
drawn_at range number values = filter (is_drawn range number) values

-- The values of the lines that are drawn, in order, of lines of which the first has this number.
abbrev pub drawn_from : Range → ℕ → List (List TraceValue) → List TraceValue
drawn_from range number [] = []
drawn_from range number (line ∷ lines) =
    drawn_at range number line ++ drawn_from range (number + 1) lines

abbrev pub drawn_of : Drawing → List (List TraceValue) → List TraceValue
drawn_of drawing lines = drawn_from drawing.range 1 lines

-- The page of all lines of a trace.
abbrev pub page_of : Drawing → List (List TraceValue) → PageValue
page_of drawing lines = page_by drawing.form blank_page (drawn_of drawing lines)

-- What is written for lines as they are read: the ladder of them, if it is a text.
abbrev pub IsEarlyOf : Form → List TraceValue → List ℕ → Type 0
IsEarlyOf Text values = IsLadder values
IsEarlyOf Svg values = λ text. text ≡ []
IsEarlyOf Html values = λ text. text ≡ []

abbrev pub IsEarlyText : Drawing → List (List TraceValue) → List ℕ → Type 0
IsEarlyText drawing lines = IsEarlyOf drawing.form (drawn_of drawing lines)

-- What is written after the last line: a picture or a page, of all that was kept.
abbrev pub IsLateText : Form → PageValue → List ℕ → Type 0
IsLateText Text page = λ text. text ≡ []
IsLateText Svg page = IsPicture page.columns page.names page.rows
IsLateText Html page = IsPage page.columns page.names page.rows

-- The ladder of a trace.
pub record IsChart (drawing : Drawing) (lines : List (List TraceValue)) (text : List ℕ)
    : Type 0 where
  pub early : List ℕ
  pub late : List ℕ
  pub is_early : IsEarlyText drawing lines early
  pub is_late : IsLateText drawing.form (page_of drawing lines) late
  pub whole : text ≡ early ++ late
