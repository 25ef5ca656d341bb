-- The cells and lines of a table. Only a cell with addresses has a text of a trace, and that is
-- escaped, so that it does not end a text or begin a tag or an attribute.
use Rattle.std.specs.Prelude.{ℕ, ◌/◌, ◌%◌, ◌==◌, List, ◌++◌, codes, if◌then◌else◌}
use Rattle.std.specs.Fmt.{decimal}
use Rattle.std.specs.List.{flat_map}
use Rattle.bsc_chart.specs.Escapes.{escaped}
use Rattle.bsc_chart.specs.declared.summary.cells.Cell.{Cell}
use Rattle.bsc_chart.specs.declared.summary.cells.Cell.TheVariants as cell

-- What stands in a cell: the addresses of a station, a count, milliseconds, or a share in tenths of
-- a percent.
pub data CellValue : Type 0 where
  addresses : List ℕ → CellValue
  count : ℕ → CellValue
  time : ℕ → CellValue
  share : ℕ → CellValue

-- The value of a cell.
abbrev pub cell_in : Cell → CellValue
cell_in (cell.Addresses chars) = addresses chars.now
cell_in (cell.Count n) = count n
cell_in (cell.Time n) = time n
cell_in (cell.Share tenths) = share tenths

-- A count is left out if it is 0.
abbrev pub count_markup : ℕ → List ℕ
count_markup n =
    if n == 0 then codes "<td></td>" else codes "<td>" ++ decimal n ++ codes "</td>"

-- A cell in a document.
abbrev pub markup : CellValue → List ℕ
markup (addresses chars) = codes "<td class=\"text\">" ++ escaped chars ++ codes "</td>"
markup (count n) = count_markup n
markup (time n) = codes "<td>" ++ decimal n ++ codes "</td>"
markup (share tenths) =
    codes "<td>" ++ decimal (tenths / 10) ++ codes "." ++ decimal (tenths % 10) ++ codes "%</td>"

abbrev pub drawn : Cell → List ℕ
drawn c = markup (cell_in c)

-- A line with a label and cells.
abbrev pub line_start : List ℕ → List ℕ
line_start label = codes "<tr><th scope=\"row\">" ++ label ++ codes "</th>"

abbrev pub line_of : List ℕ → List ℕ → List ℕ
line_of label cells = line_start label ++ cells ++ codes "</tr>\n"

abbrev pub line : List ℕ → List CellValue → List ℕ
line label cells = line_of label (flat_map markup cells)
