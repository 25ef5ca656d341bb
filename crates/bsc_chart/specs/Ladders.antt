-- The ladder of a trace, as text: for each line one row, in order.
use Rattle.std.specs.Prelude.{◌≡◌, ◌⊎◌, ℕ, ◌+◌, nat_lt, List, [], ◌∷◌, ◌++◌, if◌then◌else◌}
use Rattle.bsc_trace.specs.Rows.{time_in}
use Rattle.bsc_trace.specs.Texts.{IsLine, IsRow}
use Rattle.bsc_trace.specs.declared.ladder.row.Course.{Course}
use Rattle.bsc_trace.specs.declared.ladder.row.Course.TheVariants.{ToAll, ToOne, From}
use Rattle.bsc_trace.specs.declared.ladder.row.Place.{Place}
use Rattle.bsc_trace.specs.declared.ladder.row.Place.TheVariants.{Control, Station}
use Rattle.bsc_chart.specs.Rows.{row_of}
use Rattle.bsc_trace.specs.Lines.{TraceValue, transmission, silence, told}

-- How many columns there are up to this one, at most 255. A trace has columns below 100.
abbrev pub columns_up_to : ℕ → ℕ
columns_up_to column = if nat_lt column 255 then column + 1 else 255

-- How many columns beside that of the control station a transmission needs.
abbrev pub course_columns : Course → ℕ
course_columns ToAll = 1
course_columns (ToOne column) = columns_up_to column
course_columns (From column) = columns_up_to column

-- How many a mark at a place needs.
abbrev pub place_columns : Place → ℕ
place_columns Control = 1
place_columns (Station column) = columns_up_to column

abbrev pub needed_columns : TraceValue → ℕ
needed_columns (transmission time course fate octets) = course_columns course
needed_columns (silence time) = 1
needed_columns (told time mark text) = place_columns mark.place

-- The columns that a ladder with this many has after a line: it never has fewer than before.
abbrev pub columns_after : ℕ → TraceValue → ℕ
columns_after columns value =
    if nat_lt columns (needed_columns value) then needed_columns value else columns

-- What stands before a row: one line, the labels of the columns, or nothing.
abbrev pub AreLabels : List ℕ → Type 0
AreLabels text = (text ≡ []) ⊎ IsLine text

-- The text for a line and then the rest: its row, before which labels of the columns may stand.
pub record IsFollowed (value : TraceValue) (IsRest : List ℕ → Type 0) (text : List ℕ)
    : Type 0 where
  pub labels : List ℕ
  pub row : List ℕ
  pub rest : List ℕ
  pub are_labels : AreLabels labels
  pub is_row : IsRow (time_in (row_of value)) row
  pub is_rest : IsRest rest
  pub whole : text ≡ labels ++ row ++ rest

-- The text for lines: that for each of them, in order, and nothing else.
abbrev pub IsLadder : List TraceValue → List ℕ → Type 0
IsLadder [] = λ text. text ≡ []
IsLadder (value ∷ values) = IsFollowed value (IsLadder values)
