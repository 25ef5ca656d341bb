-- A page: the tables of a summary, and the picture under them.
use Rattle.std.specs.Prelude.{◌≡◌, ℕ, ◌+◌, ◌==◌, List, [], ◌++◌, codes, if◌then◌else◌}
use Rattle.bsc_trace.specs.Rows.{RowValue}
use Rattle.bsc_chart.specs.Pictures.{IsPicture}
use Rattle.bsc_chart.specs.Clocks.{ClockValue, clock_of}
use Rattle.bsc_chart.specs.Counts.{count_of, transmissions}
use Rattle.bsc_chart.specs.Tables.{kind_lines, station_lines, time_lines}
use Rattle.bsc_chart.specs.declared.summary.counts.Outcome.TheVariants.{Sent}
use Rattle.bsc_chart.specs.declared.summary.style.TheConstants.{PAGE_START, LADDER_START, PAGE_END}
use Rattle.bsc_chart.specs.declared.summary.style.TheConstants.{KINDS_START, STATIONS_START}
use Rattle.bsc_chart.specs.declared.summary.style.TheConstants.{TIMES_START}

abbrev pub kinds_table : List RowValue → List ℕ
kinds_table rows = KINDS_START.now ++ kind_lines rows ++ codes "</table>\n"

abbrev pub stations_table : ℕ → List RowValue → List RowValue → List ℕ
stations_table columns names rows =
    STATIONS_START.now ++ station_lines columns names rows ++ codes "</table>\n"

-- How the time is divided, if any passed.
abbrev pub times_if : ClockValue → List ℕ
times_if c =
    if c.spoken + c.silent == 0 then [] else TIMES_START.now ++ time_lines c ++ codes "</table>\n"

-- The same, if the trace has times: only a station tells that it sent something, and a run has the
-- lines of its script in place of times.
abbrev pub times_table : List RowValue → List ℕ
times_table rows =
    if count_of (transmissions [] Sent) rows == 0 then [] else times_if (clock_of rows)

-- The page of a ladder with this many columns: the names of stations, and the rows.
pub record IsPage (columns : ℕ) (names rows : List RowValue) (page : List ℕ) : Type 0 where
  pub picture : List ℕ
  pub is_picture : IsPicture columns names rows picture
  pub whole : page ≡ PAGE_START.now ++ kinds_table rows ++ stations_table columns names rows
      ++ times_table rows ++ LADDER_START.now ++ picture ++ PAGE_END.now
