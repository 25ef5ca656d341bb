-- The tables of a summary: which lines each has, in order, and which counts and times each line
-- has. What a line is in a document is stated in `Cells`. The style of a page and the heads of its
-- tables are compared by tests.
use Rattle.std.specs.Prelude.{ℕ, ◌-◌, ◌==◌, List, [], ◌∷◌, ◌++◌, codes, if◌then◌else◌}
use Rattle.std.specs.Fmt.{decimal}
use Rattle.std.specs.List.{flat_map}
use Rattle.bsc_text.specs.Channels.{each_below}
use Rattle.bsc_trace.specs.declared.ladder.row.Place.{Place}
use Rattle.bsc_trace.specs.declared.ladder.row.Place.TheVariants.{Control, Station}
use Rattle.bsc_trace.specs.Rows.{RowValue, mark}
use Rattle.bsc_chart.specs.Escapes.{shown}
use Rattle.bsc_chart.specs.Cells.{CellValue, addresses, count, line, share, time}
use Rattle.bsc_chart.specs.Clocks.{ClockValue, silent_tenths}
use Rattle.bsc_chart.specs.Counts.{arrived, count_of, same_place, sent, transmissions}
use Rattle.bsc_chart.specs.declared.summary.counts.Outcome.TheVariants.{Any, Lost, Failed, Turned}
use Rattle.bsc_chart.specs.declared.summary.kinds.TheConstants.{KINDS}

-- How many transmissions there are of a kind, or of all kinds if it is empty, and how many of them
-- were lost, failed and were turned.
abbrev pub kind_cells : List ℕ → List RowValue → List CellValue
kind_cells kind rows =
    count (count_of (transmissions kind Any) rows)
    ∷ count (count_of (transmissions kind Lost) rows)
    ∷ count (count_of (transmissions kind Failed) rows)
    ∷ count (count_of (transmissions kind Turned) rows) ∷ []

-- The line of a kind, if there is a transmission of it.
unfoldable pub kind_if : List RowValue → List ℕ → List ℕ
kind_if rows kind =
    if count_of (transmissions kind Any) rows == 0 then [] else line kind (kind_cells kind rows)

-- The transmissions by kind, and all of them.
abbrev pub kind_lines : List RowValue → List ℕ
kind_lines rows =
    flat_map (λ kind. kind_if rows kind.now) KINDS.now
    ++ line (codes "all") (kind_cells [] rows)

-- What a row tells of the addresses of the station at a place.
abbrev pub addresses_in : Place → RowValue → List ℕ
addresses_in place (mark moment m told) = if same_place place m.place then shown told else []
addresses_in place row = []

-- The station at a place with these addresses: how many transmissions it sent, and how many records
-- arrived at it.
abbrev pub addressed_cells : List ℕ → List RowValue → Place → List CellValue
addressed_cells chars rows place =
    addresses chars ∷ count (count_of (sent place) rows)
    ∷ count (count_of (arrived place) rows) ∷ []

-- The station at a place, with the addresses that the rows above the columns tell of it.
abbrev pub station_cells : List RowValue → List RowValue → Place → List CellValue
station_cells names rows place =
    addressed_cells (flat_map (addresses_in place) names) rows place

abbrev pub column_line : List RowValue → List RowValue → ℕ → List ℕ
column_line names rows column =
    line (decimal column) (station_cells names rows (Station column))

-- The control station, and the stations of this many columns.
abbrev pub station_lines : ℕ → List RowValue → List RowValue → List ℕ
station_lines columns names rows =
    line (codes "control") (station_cells names rows Control)
    ++ each_below (column_line names rows) columns

-- How the time is divided: the share of silences is rounded down, and that of transmissions is the
-- rest.
abbrev pub time_lines : ClockValue → List ℕ
time_lines c =
    line (codes "transmissions") (time c.spoken ∷ share (1000 - silent_tenths c) ∷ [])
    ++ line (codes "silences") (time c.silent ∷ share (silent_tenths c) ∷ [])
