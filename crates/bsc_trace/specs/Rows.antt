-- The rows of a ladder as values.
use Rattle.std.specs.Prelude.{ℕ, List}
use Rattle.bsc_trace.specs.declared.ladder.row.Course.{Course}
use Rattle.bsc_trace.specs.declared.ladder.row.Fate.{Fate}
use Rattle.bsc_trace.specs.declared.ladder.row.Mark.{Mark}
use Rattle.bsc_trace.specs.declared.ladder.row.Row.{Row}
use Rattle.bsc_trace.specs.declared.ladder.row.Row.TheVariants as row

-- A row: a transmission with its time, its course, its fate, its name, the characters of its
-- records and its octets; a silence with its time; or a mark with its time and its text.
pub data RowValue : Type 0 where
  arrow : List ℕ → Course → Fate → List ℕ → List ℕ → List ℕ → RowValue
  silence : List ℕ → RowValue
  mark : List ℕ → Mark → List ℕ → RowValue

-- The value of a row.
abbrev pub row_in : Row → RowValue
row_in (row.Arrow time course fate name note octets) =
    arrow time.now course fate name.now note.now octets.now
row_in (row.Silence time) = silence time.now
row_in (row.Mark time m text) = mark time.now m text.now

-- The time of a row.
abbrev pub time_in : RowValue → List ℕ
time_in (arrow time course fate name note octets) = time
time_in (silence time) = time
time_in (mark time m text) = time
