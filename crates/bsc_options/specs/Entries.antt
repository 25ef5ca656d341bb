-- The rows of the tables of arguments and options.
use Rattle.std.specs.Prelude.{ℕ, ◌^◌, ◌-◌, List, [], ◌∷◌, map, Option, Some, None, Result, Ok, Err}
use Rattle.std.specs.Prelude.{codes, if◌then◌else◌}
use Rattle.bsc_options.specs.Errors.{Refusal, clashes, lacks, wrong}
use Rattle.bsc_options.specs.Numbers.{number_within}
use Rattle.bsc_options.specs.Readings.{◌>>=◌}
use Rattle.bsc_options.specs.Words.{WordsValue, is_given, text_at}
use Rattle.bsc_options.specs.declared.entry.Entry.{Entry}
use Rattle.bsc_options.specs.declared.entry.Takes.{Takes}
use Rattle.bsc_options.specs.declared.entry.Takes.TheVariants as takes

-- An argument or an option: its name, what it takes, the options without which it cannot be given,
-- and those with which it cannot.
pub record EntryValue : Type 0 where
  pub id : List ℕ
  pub takes : Takes
  pub needs : List (List ℕ)
  pub excludes : List (List ℕ)

abbrev pub entry_value : Entry → EntryValue
entry_value e = record {
  id = e.id.now;
  takes = e.takes;
  needs = map (λ id. id.now) e.needs.now;
  excludes = map (λ id. id.now) e.excludes.now;
}

-- The options are given that this one needs.
abbrev pub has_needed : List ℕ → WordsValue → List (List ℕ) → Result (Unit {0}) Refusal
has_needed id w [] = Ok tt
has_needed id w (needed ∷ rest) =
    if is_given needed w then has_needed id w rest else Err (lacks id needed)

-- None of those is given that this one excludes.
abbrev pub has_none_of : List ℕ → WordsValue → List (List ℕ) → Result (Unit {0}) Refusal
has_none_of id w [] = Ok tt
has_none_of id w (other ∷ rest) =
    if is_given other w then Err (clashes other id) else has_none_of id w rest

-- An option, if it is given, fits those that are given too.
abbrev pub fits_entry : WordsValue → EntryValue → Result (Unit {0}) Refusal
fits_entry w e =
    if is_given e.id w then (do
      needed ← has_needed e.id w e.needs
      has_none_of e.id w e.excludes)
    else Ok tt

-- So do all of a table, or this is the first of it that does not.
abbrev pub fits_table : WordsValue → List EntryValue → Result (Unit {0}) Refusal
fits_table w [] = Ok tt
fits_table w (e ∷ es) = do
  fits ← fits_entry w e
  fits_table w es

-- A number that was read, if there was one.
abbrev pub number_or_wrong : List ℕ → List ℕ → Option ℕ → Result ℕ Refusal
number_or_wrong id kind None = Err (wrong id kind)
number_or_wrong id kind (Some number) = Ok number

-- The number in a text of an option, from `least` to `most`, or `absent` if there is no text.
abbrev pub number_in_text : List ℕ → List ℕ → ℕ → ℕ → ℕ → Option (List ℕ) → Result ℕ Refusal
number_in_text id kind least most absent None = Ok absent
number_in_text id kind least most absent (Some text) =
    number_or_wrong id kind (number_within least most text)

-- The number of the option of this name.
abbrev pub number_in : List ℕ → List ℕ → ℕ → ℕ → ℕ → WordsValue → Result ℕ Refusal
number_in id kind least most absent w = number_in_text id kind least most absent (text_at id w)

-- The same by what the option takes; `absent`, if this is no number.
abbrev pub number_by : List ℕ → List ℕ → Takes → ℕ → WordsValue → Result ℕ Refusal
number_by id kind (takes.Number least most fixed) absent w =
    number_in id kind least most absent w
number_by id kind (takes.Derived least most) absent w = number_in id kind least most absent w
number_by id kind other absent w = Ok absent

-- What a number is unless it is given.
abbrev pub absent_in : Takes → ℕ
absent_in (takes.Number least most absent) = absent
absent_in other = 0

-- ---- the options of a station

abbrev row : List ℕ → Takes → EntryValue
row id what = record { id = id; takes = what; needs = []; excludes = [] }

abbrev row_with : List ℕ → Takes → List (List ℕ) → EntryValue
row_with id what needs = record { id = id; takes = what; needs = needs; excludes = [] }

abbrev row_without : List ℕ → Takes → List (List ℕ) → EntryValue
row_without id what excludes = record { id = id; takes = what; needs = []; excludes = excludes }

-- The greatest number of 64 bits.
abbrev most : ℕ
most = 2 ^ 64 - 1

-- An hour in milliseconds.
abbrev pub hour : ℕ
hour = 3600000

-- The arguments and options of a station.
abbrev pub station_table : List EntryValue
station_table =
    row (codes "CONFIG") takes.Required
    ∷ row (codes "control") takes.Flag
    ∷ row (codes "terminal") takes.Value
    ∷ row (codes "listen") takes.Value
    ∷ row_with (codes "allow") takes.Values (codes "listen" ∷ [])
    ∷ record {
      id = codes "peer";
      takes = takes.Values;
      needs = codes "control" ∷ codes "listen" ∷ [];
      excludes = codes "shared" ∷ [];
    }
    ∷ row (codes "connect") takes.Value
    ∷ row (codes "serve") takes.Value
    ∷ row_with (codes "serve-anyone") takes.Flag (codes "serve" ∷ [])
    ∷ row_with (codes "shared") takes.Flag (codes "control" ∷ [])
    ∷ row (codes "raw") takes.Flag
    ∷ row_with (codes "gap") (takes.Number 1 hour 50) (codes "raw" ∷ [])
    ∷ row (codes "time-out") (takes.Number 1 hour 3000)
    ∷ row_with (codes "patience") (takes.Derived 1 hour) (codes "connect" ∷ [])
    ∷ row_with (codes "replace-after") (takes.Derived 1 hour)
    (codes "control" ∷ codes "listen" ∷ [])
    ∷ row_with (codes "begin-with") (takes.Number 0 64 0) (codes "control" ∷ codes "listen" ∷ [])
    ∷ row_with (codes "pause") (takes.Derived 0 hour) (codes "control" ∷ [])
    ∷ row_with (codes "rounds") (takes.Derived 1 most) (codes "control" ∷ [])
    ∷ row_with (codes "idle-rounds") (takes.Derived 1 most) (codes "control" ∷ [])
    ∷ record {
      id = codes "batch";
      takes = takes.Flag;
      needs = codes "control" ∷ [];
      excludes = codes "idle-rounds" ∷ [];
    }
    ∷ row_with (codes "absent-after") (takes.Number 0 most 2) (codes "control" ∷ [])
    ∷ row_with (codes "retry-absent") (takes.Number 1 3600 30) (codes "control" ∷ [])
    ∷ row (codes "until-input-ends") takes.Flag
    ∷ row_without (codes "offer") takes.Values (codes "store" ∷ [])
    ∷ row (codes "store") takes.Value
    ∷ row (codes "text") takes.Flag
    ∷ row_without (codes "bytes") takes.Flag (codes "text" ∷ [])
    ∷ row (codes "numbers") takes.Flag
    ∷ row (codes "report-records") takes.Flag
    ∷ row (codes "sync") takes.Flag
    ∷ row (codes "trace") takes.Count
    ∷ row (codes "quiet") takes.Flag
    ∷ []

-- The options of a station fit one another.
unfoldable pub fits_station : WordsValue → Result (Unit {0}) Refusal
fits_station w = fits_table w station_table

-- The arguments and options of the other commands.
abbrev pub name_table : List EntryValue
name_table = row (codes "HEX") takes.Required ∷ []

abbrev pub chart_table : List EntryValue
chart_table =
    row (codes "FILE") takes.Optional
    ∷ row (codes "text") takes.Flag
    ∷ row (codes "svg") takes.Flag
    ∷ row (codes "html") takes.Flag
    ∷ row (codes "ascii") takes.Flag
    ∷ row (codes "width") takes.Value
    ∷ row (codes "from") takes.Value
    ∷ row (codes "to") takes.Value
    ∷ []

abbrev pub run_table : List EntryValue
run_table =
    row (codes "CONFIG") takes.Required
    ∷ row (codes "SCRIPT") takes.Required
    ∷ row (codes "check") takes.Flag
    ∷ row (codes "trace") takes.Flag
    ∷ row (codes "quiet") takes.Flag
    ∷ []

abbrev pub feed_table : List EntryValue
feed_table = row (codes "ADDRESS") takes.Required ∷ row (codes "COMMAND") takes.Rest ∷ []

abbrev pub store_table : List EntryValue
store_table =
    row (codes "FILE") takes.Required
    ∷ row (codes "WORK") takes.Required
    ∷ row (codes "FIRST") takes.Optional
    ∷ row (codes "SECOND") takes.Optional
    ∷ row (codes "control") takes.Flag
    ∷ row (codes "terminal") takes.Value
    ∷ row (codes "from") takes.Value
    ∷ row (codes "text") takes.Flag
    ∷ []
