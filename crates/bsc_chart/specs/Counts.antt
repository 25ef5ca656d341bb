-- What is counted of the rows of a ladder.
use Rattle.std.specs.Prelude.{ℕ, ◌+◌, ◌==◌, ◌&&◌, ◌||◌, Bool, true, false, List, [], ◌∷◌, length}
use Rattle.std.specs.Prelude.{if◌then◌else◌}
use Rattle.std.specs.Str.{bytes_eq}
use Rattle.bsc_text.specs.Parts.{before_octet}
use Rattle.bsc_trace.specs.declared.ladder.row.Course.{Course}
use Rattle.bsc_trace.specs.declared.ladder.row.Course.TheVariants.{From}
use Rattle.bsc_trace.specs.declared.ladder.row.Fate.{Fate}
use Rattle.bsc_trace.specs.declared.ladder.row.Fate.TheVariants as fate
use Rattle.bsc_trace.specs.declared.ladder.row.Mark.{Mark}
use Rattle.bsc_trace.specs.declared.ladder.row.Place.{Place}
use Rattle.bsc_trace.specs.declared.ladder.row.Place.TheVariants.{Control, Station}
use Rattle.bsc_trace.specs.declared.ladder.row.Sign.{Sign}
use Rattle.bsc_trace.specs.declared.ladder.row.Sign.TheVariants as sign
use Rattle.bsc_trace.specs.Rows.{RowValue, arrow, mark, silence}
use Rattle.bsc_chart.specs.declared.summary.counts.Outcome.{Outcome}
use Rattle.bsc_chart.specs.declared.summary.counts.Outcome.TheVariants as outcome
use Rattle.bsc_chart.specs.declared.summary.counts.Wanted.{Wanted}
use Rattle.bsc_chart.specs.declared.summary.counts.Wanted.TheVariants as wanted

-- What is counted: transmissions of a kind, or of all kinds if it is empty, with an outcome; what
-- was sent by the station at a place; or the records that arrived there.
pub data WantedValue : Type 0 where
  transmissions : List ℕ → Outcome → WantedValue
  sent : Place → WantedValue
  arrived : Place → WantedValue

abbrev pub wanted_in : Wanted → WantedValue
wanted_in (wanted.Transmissions kind o) = transmissions kind.now o
wanted_in (wanted.Sent place) = sent place
wanted_in (wanted.Arrived place) = arrived place

-- Whether this became of a transmission.
abbrev pub is_of : Outcome → Fate → Bool
is_of outcome.Any f = true
is_of outcome.Sent fate.Sent = true
is_of outcome.Lost fate.Lost = true
is_of outcome.Failed fate.Failed = true
is_of outcome.Turned fate.Turned = true
is_of o f = false

-- Whether the first word of a name is this kind.
abbrev pub is_kind : List ℕ → List ℕ → Bool
is_kind kind name = length kind == 0 || bytes_eq (before_octet 32 name) kind

abbrev pub same_place : Place → Place → Bool
same_place Control Control = true
same_place (Station a) (Station b) = a == b
same_place a b = false

-- Who sent a transmission.
abbrev pub sender_of : Course → Place
sender_of (From column) = Station column
sender_of course = Control

-- Whether a transmission was sent.
abbrev pub was_sent : Fate → Bool
was_sent fate.Withheld = false
was_sent f = true

abbrev pub is_arrived : Sign → Bool
is_arrived sign.Arrived = true
is_arrived s = false

abbrev pub wants_arrow : WantedValue → Course → Fate → List ℕ → Bool
wants_arrow (transmissions kind o) course f name = is_kind kind name && is_of o f
wants_arrow (sent place) course f name = was_sent f && same_place place (sender_of course)
wants_arrow (arrived place) course f name = false

abbrev pub wants_mark : WantedValue → Mark → Bool
wants_mark (transmissions kind o) m = false
wants_mark (sent place) m = false
wants_mark (arrived place) m = is_arrived m.sign && same_place place m.place

-- Whether a row is one of those that are counted.
abbrev pub wants : WantedValue → RowValue → Bool
wants w (arrow time course f name note octets) = wants_arrow w course f name
wants w (silence time) = false
wants w (mark time m text) = wants_mark w m

abbrev pub one_if : Bool → ℕ
one_if is_one = if is_one then 1 else 0

-- How many rows there are of those that are counted.
abbrev pub count_of : WantedValue → List RowValue → ℕ
count_of w [] = 0
count_of w (row ∷ rows) = one_if (wants w row) + count_of w rows
