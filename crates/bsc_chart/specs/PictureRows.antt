-- Rows that are kept, as values.
use Rattle.std.specs.Prelude.{List, map}
use Rattle.bsc_trace.specs.Rows.{RowValue, arrow, mark, silence}
use Rattle.bsc_chart.specs.declared.picture.rows.PictureRow.{PictureRow}
use Rattle.bsc_chart.specs.declared.picture.rows.PictureRow.TheVariants as row

-- The value of a row.
abbrev pub kept_in : {A : Type 0} → PictureRow A → RowValue
kept_in (row.Arrow time course fate name note octets) =
    arrow time.items course fate name.items note.items octets.items
kept_in (row.Silence time) = silence time.items
kept_in (row.Mark time m text) = mark time.items m text.items

-- The values of rows.
abbrev pub rows_in : {A : Type 0} → List (PictureRow A) → List RowValue
rows_in rows = map kept_in rows
