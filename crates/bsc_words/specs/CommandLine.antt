-- The command line: the commands that `clap` reads, and the work that their matches ask for.
use Rattle.std.specs.Prelude.{◌≡◌, ◌⊎◌, List, [], ◌∷◌, map, true, Option, Some, None, codes}
use Rattle.std.specs.Prelude.{if◌then◌else◌}
use Rattle.std.specs.Str.{bytes_eq}
use Rattle.clap.specs.Words.{App, Kinds, Row, Shape, Text, fault_of, new_app, subcommand_of}
use Rattle.clap.specs.declared.error.kind.ErrorKind.{ErrorKind}
use Rattle.clap.specs.declared.error.kind.ErrorKind.TheVariants.{DisplayHelp, DisplayVersion}
use Rattle.bsc_options.specs.Asked.{AskedValue, chart_in, feed_in, name_in, names, run_in, show}
use Rattle.bsc_options.specs.Asked.{station, store_in}
use Rattle.bsc_options.specs.Entries.{chart_table, feed_table, name_table, run_table, station_table}
use Rattle.bsc_options.specs.Entries.{store_table}
use Rattle.bsc_words.specs.Options.{row_rule, with_rules, with_shapes, words_in}

-- The commands with the rows of their tables.
abbrev pub name_app : App
name_app = with_rules (new_app (codes "name")) (map row_rule name_table)

abbrev pub show_app : App
show_app = new_app (codes "show")

abbrev pub chart_app : App
chart_app = with_rules (new_app (codes "chart")) (map row_rule chart_table)

abbrev pub run_app : App
run_app = with_rules (new_app (codes "run")) (map row_rule run_table)

abbrev pub station_app : App
station_app = with_rules (new_app (codes "station")) (map row_rule station_table)

abbrev pub feed_app : App
feed_app = with_rules (new_app (codes "feed")) (map row_rule feed_table)

abbrev pub store_app : App
store_app = with_rules (new_app (codes "store")) (map row_rule store_table)

-- The program, which has a version, without its commands.
abbrev pub program_app : App
program_app =
    record { top = record (new_app (codes "bscline")).top { has_version = true }; subs = [] }

-- The commands for transmissions, traces and whole lines, and those for one station.
abbrev pub line_shapes : List Shape
line_shapes = name_app.top ∷ show_app.top ∷ chart_app.top ∷ run_app.top ∷ []

abbrev pub station_shapes : List Shape
station_shapes = station_app.top ∷ feed_app.top ∷ store_app.top ∷ []

-- The program with its commands.
abbrev pub bscline_app : App
bscline_app = with_shapes (with_shapes program_app line_shapes) station_shapes

-- The kinds of error that `clap` may return for the arguments; none if they are a command.
unfoldable pub faults_at : List Text → Kinds
faults_at words = fault_of bscline_app words

-- The work for the name of a command, with what was given of its table.
abbrev pub asked_by : Text → List Row → AskedValue
asked_by sub rows =
    if bytes_eq sub (codes "name") then name_in (words_in name_table rows)
    else (if bytes_eq sub (codes "chart") then chart_in (words_in chart_table rows)
    else (if bytes_eq sub (codes "run") then run_in (words_in run_table rows)
    else (if bytes_eq sub (codes "station") then station (words_in station_table rows)
    else (if bytes_eq sub (codes "feed") then feed_in (words_in feed_table rows)
    else (if bytes_eq sub (codes "store") then store_in (words_in store_table rows) else show)))))

-- The work for a command. Without a command it is naming the lines of standard input.
abbrev pub asked_sub : Option (Text × List Row) → AskedValue
asked_sub None = names
asked_sub (Some p) = asked_by p.0 p.1

-- The work that the arguments ask for, as `clap` reads them.
unfoldable pub asked_of : List Text → AskedValue
asked_of words = asked_sub (subcommand_of bscline_app words)

-- The kinds of error by which `clap` reports that the help or the version was asked for.
abbrev pub IsHelp : ErrorKind → Type 0
IsHelp kind = (kind ≡ DisplayHelp) ⊎ (kind ≡ DisplayVersion)
