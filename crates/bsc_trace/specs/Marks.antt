-- The marks of a trace: where a text that was told stands, and what it is.
use Rattle.std.specs.Prelude.{ℕ, List, codes, Option, Some, None, option_map, unwrap_or}
use Rattle.std.specs.Prelude.{if◌then◌else◌}
use Rattle.std.specs.Option.{option_and_then}
use Rattle.std.specs.Str.{bytes_eq}
use Rattle.bsc_text.specs.Parts.{after_octet, before_octet}
use Rattle.bsc_text.specs.Words.{after_word, first_word}
use Rattle.bsc_trace.specs.declared.ladder.row.Mark.{Mark}
use Rattle.bsc_trace.specs.declared.ladder.row.Place.{Place}
use Rattle.bsc_trace.specs.declared.ladder.row.Place.TheVariants.{Control, Station}
use Rattle.bsc_trace.specs.declared.ladder.row.Sign.{Sign}
use Rattle.bsc_trace.specs.declared.ladder.row.Sign.TheVariants.{Told, Named, Arrived, DoubtBegins}
use Rattle.bsc_trace.specs.declared.ladder.row.Sign.TheVariants.{DoubtEnds, Restart, TrustEnds}
use Rattle.bsc_trace.specs.Words.{column_in}
use Rattle.bsc_trace.specs.declared.marks.Marked.{Marked}
use Rattle.bsc_trace.specs.declared.marks.Numbered.{Numbered}

-- A mark, and its text.
pub record MarkedValue : Type 0 where
  pub mark : Mark
  pub text : List ℕ

abbrev pub marked_in : Marked → MarkedValue
marked_in m = record { mark = m.mark; text = m.text.now }

-- A number, and the text after the octet that ends it.
pub record NumberedValue : Type 0 where
  pub column : ℕ
  pub rest : List ℕ

abbrev pub numbered_in : Numbered → NumberedValue
numbered_in n = record { column = n.column; rest = n.rest.now }

abbrev pub mark_at : Place → Sign → Mark
mark_at place sign = record { place = place; sign = sign }

-- This text, with this mark.
abbrev pub marked : List ℕ → Mark → MarkedValue
marked text mark = record { mark = mark; text = text }

abbrev pub numbered_with : List ℕ → ℕ → NumberedValue
numbered_with rest column = record { column = column; rest = rest }

-- The number of a station before the first octet with this value.
abbrev pub numbered_of : ℕ → List ℕ → Option NumberedValue
numbered_of value text =
    option_and_then
    (λ rest. option_map (numbered_with rest) (column_in (before_octet value text)))
    (after_octet value text)

-- The text after this word, if that is the first one.
abbrev pub after_this : List ℕ → List ℕ → Option (List ℕ)
after_this word text =
    if bytes_eq (first_word text) word then after_word text else None

-- Whether selection addresses follow a polling address: a comma and `selected as` before them.
abbrev pub selects_in : List ℕ → Option (List ℕ)
selects_in text =
    option_and_then (λ rest. option_and_then (after_this (codes "as"))
    (after_this (codes "selected") rest)) (after_word text)

-- The addresses of the station of this column.
abbrev pub named_at : ℕ → List ℕ → Option MarkedValue
named_at column text =
    option_map (λ selects. marked text (mark_at (Station column) Named)) (selects_in text)

-- The text after `answers on connection`, if that comes first.
abbrev pub connection_in : List ℕ → Option (List ℕ)
connection_in text =
    option_and_then (λ rest. option_and_then (after_this (codes "connection"))
    (after_this (codes "on") rest)) (after_this (codes "answers") text)

-- That a terminal answers on a connection stands at the column of that.
abbrev pub answering_at : List ℕ → List ℕ → Option MarkedValue
answering_at text rest =
    option_and_then (λ number. option_map
    (λ column. marked text (mark_at (Station column) Told)) (column_in number))
    (connection_in rest)

-- The addresses of the station of this column, which follow `is`, or the connection on which it
-- answers.
abbrev pub named_or_answering : List ℕ → NumberedValue → Option (List ℕ) → Option MarkedValue
named_or_answering text n None = answering_at text n.rest
named_or_answering text n (Some addresses) = named_at n.column addresses

-- What is told of the station of this column: its addresses, its connection, or that it began
-- again.
abbrev pub station_mark : List ℕ → NumberedValue → Option MarkedValue
station_mark text n =
    if bytes_eq n.rest (codes "began again")
    then Some (marked text (mark_at (Station n.column) Restart))
    else named_or_answering text n (after_this (codes "is") n.rest)

abbrev pub terminal_mark : List ℕ → List ℕ → Option MarkedValue
terminal_mark text rest = option_and_then (station_mark text) (numbered_of 32 rest)

-- That the control station began again.
abbrev pub control_mark : List ℕ → List ℕ → Option MarkedValue
control_mark text rest =
    if bytes_eq rest (codes "began again") then Some (marked text (mark_at Control Restart))
    else None

-- What became of a doubt.
abbrev pub doubt_sign : List ℕ → Option Sign
doubt_sign text =
    if bytes_eq text (codes "begins") then Some DoubtBegins
    else (if bytes_eq text (codes "is ended") then Some DoubtEnds else None)

-- The same of the station at this place, which sent what is in doubt.
abbrev pub doubt_at : List ℕ → Place → List ℕ → Option MarkedValue
doubt_at text place rest =
    option_map (λ sign. marked text (mark_at place sign)) (doubt_sign rest)

-- A doubt about what the station with a number sent.
abbrev pub doubt_from : List ℕ → List ℕ → Option MarkedValue
doubt_from text rest =
    option_and_then (λ n. doubt_at text (Station n.column) n.rest) (numbered_of 32 rest)

-- A doubt about what the control station sent to a selection address.
abbrev pub doubt_to : List ℕ → List ℕ → Option MarkedValue
doubt_to text rest =
    option_and_then (λ n. option_and_then (λ select. doubt_at text Control select.rest)
    (numbered_of 32 n.rest)) (numbered_of 46 rest)

-- A doubt, by the word after `the doubt`.
abbrev pub doubt_by : List ℕ → List ℕ → List ℕ → Option MarkedValue
doubt_by text word rest =
    if bytes_eq word (codes "from") then doubt_from text rest
    else (if bytes_eq word (codes "to") then doubt_to text rest else None)

abbrev pub doubt_mark : List ℕ → List ℕ → Option MarkedValue
doubt_mark text rest = option_and_then (doubt_by text (first_word rest)) (after_word rest)

-- A doubt, or the end of trust, after `the`.
abbrev pub line_mark : List ℕ → List ℕ → Option MarkedValue
line_mark text rest =
    if bytes_eq rest (codes "line is no longer trusted")
    then Some (marked text (mark_at Control TrustEnds))
    else option_and_then (doubt_mark text) (after_this (codes "doubt") rest)

-- A record that arrived from a station is at the control station.
abbrev pub arrived_from : List ℕ → List ℕ → Option MarkedValue
arrived_from text rest =
    option_map (λ n. marked text (mark_at Control Arrived)) (numbered_of 58 rest)

-- A record that arrived at a selection address is at its station.
abbrev pub arrived_to : List ℕ → List ℕ → Option MarkedValue
arrived_to text rest =
    option_and_then (λ n. option_map
    (λ select. marked text (mark_at (Station n.column) Arrived)) (numbered_of 58 n.rest))
    (numbered_of 46 rest)

-- A record that arrived, by the word after `arrived`.
abbrev pub arrived_by : List ℕ → List ℕ → List ℕ → Option MarkedValue
arrived_by text word rest =
    if bytes_eq word (codes "from") then arrived_from text rest
    else (if bytes_eq word (codes "to") then arrived_to text rest else None)

abbrev pub arrived_mark : List ℕ → List ℕ → Option MarkedValue
arrived_mark text rest = option_and_then (arrived_by text (first_word rest)) (after_word rest)

-- The end of trust that a control station tells, after `not`.
abbrev pub trust_mark : List ℕ → List ℕ → Option MarkedValue
trust_mark text rest =
    if bytes_eq (first_word rest) (codes "trusted:")
    then Some (marked text (mark_at Control TrustEnds)) else None

-- A mark by its first word, with the text after that.
abbrev pub mark_by : List ℕ → List ℕ → List ℕ → Option MarkedValue
mark_by text word rest =
    if bytes_eq word (codes "terminal") then terminal_mark text rest
    else (if bytes_eq word (codes "control") then control_mark text rest
    else (if bytes_eq word (codes "the") then line_mark text rest
    else (if bytes_eq word (codes "arrived") then arrived_mark text rest
    else (if bytes_eq word (codes "not") then trust_mark text rest else None))))

-- A mark that is known by its form.
abbrev pub sign_in : List ℕ → Option MarkedValue
sign_in text = option_and_then (mark_by text (first_word text)) (after_word text)

-- Anything else stands at the control station.
abbrev pub told_mark : List ℕ → MarkedValue
told_mark text = marked text (mark_at Control Told)

-- The mark for a text that was told.
abbrev pub marked_of : List ℕ → MarkedValue
marked_of text = unwrap_or (sign_in text) (told_mark text)
