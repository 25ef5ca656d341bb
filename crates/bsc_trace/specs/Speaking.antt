-- Who sent a transmission, who heard it, and what became of it.
use Rattle.std.specs.Prelude.{ℕ, ◌||◌, List, codes, Option, Some, None, option_map}
use Rattle.std.specs.Prelude.{if◌then◌else◌}
use Rattle.std.specs.Option.{option_and_then}
use Rattle.std.specs.Str.{bytes_eq}
use Rattle.bsc_text.specs.Words.{after_word, first_word}
use Rattle.bsc_trace.specs.declared.ladder.row.Course.{Course}
use Rattle.bsc_trace.specs.declared.ladder.row.Course.TheVariants.{ToAll, ToOne, From}
use Rattle.bsc_trace.specs.declared.ladder.row.Fate.{Fate}
use Rattle.bsc_trace.specs.Words.{column_in, fate_in}
use Rattle.bsc_trace.specs.declared.speaking.Head.{Head}
use Rattle.bsc_trace.specs.declared.speaking.Spoken.{Spoken}

-- The sender of a transmission, and the text after it.
pub record HeadValue : Type 0 where
  pub course : Course
  pub rest : List ℕ

abbrev pub head_in : Head → HeadValue
head_in head = record { course = head.course; rest = head.rest.now }

-- The beginning of a line for a transmission.
pub record SpokenValue : Type 0 where
  pub course : Course
  pub fate : Fate
  pub rest : List ℕ

abbrev pub spoken_in : Spoken → SpokenValue
spoken_in s = record { course = s.course; fate = s.fate; rest = s.rest.now }

-- The station with this number sent.
abbrev pub sent_from : List ℕ → ℕ → HeadValue
sent_from rest column = record { course = From column; rest = rest }

abbrev pub from_column : List ℕ → Option HeadValue
from_column text =
    option_and_then (λ rest. option_map (sent_from rest) (column_in (first_word text)))
    (after_word text)

-- The sender by the first word: `control`, `terminal N` or `connection N`.
abbrev pub sender_by : List ℕ → List ℕ → Option HeadValue
sender_by word rest =
    if bytes_eq word (codes "control") then Some (record { course = ToAll; rest = rest })
    else (if bytes_eq word (codes "terminal") || bytes_eq word (codes "connection")
    then from_column rest else None)

abbrev pub sender_in : List ℕ → Option HeadValue
sender_in text = option_and_then (sender_by (first_word text)) (after_word text)

-- The terminal with this number heard it.
abbrev pub heard_by : Fate → List ℕ → ℕ → SpokenValue
heard_by fate rest column = record { course = ToOne column; fate = fate; rest = rest }

abbrev pub to_one : Fate → List ℕ → Option SpokenValue
to_one fate text =
    option_and_then (λ rest. option_map (heard_by fate rest) (column_in (first_word text)))
    (after_word text)

-- Who heard a transmission of the control station: one terminal after `at`, and otherwise all.
abbrev pub spoken_after : Fate → List ℕ → Option SpokenValue
spoken_after fate text =
    if bytes_eq (first_word text) (codes "at")
    then option_and_then (to_one fate) (after_word text)
    else Some (record { course = ToAll; fate = fate; rest = text })

-- Who heard a transmission.
abbrev pub spoken_to : Course → Fate → List ℕ → Option SpokenValue
spoken_to ToAll fate text = spoken_after fate text
spoken_to course fate text = Some (record { course = course; fate = fate; rest = text })

-- What became of the transmission of this sender, and who heard it.
abbrev pub spoken_by : HeadValue → Option SpokenValue
spoken_by head =
    option_and_then (λ rest. option_and_then (λ fate. spoken_to head.course fate rest)
    (fate_in (first_word head.rest))) (after_word head.rest)

-- The beginning of a line for a transmission.
abbrev pub spoken_of : List ℕ → Option SpokenValue
spoken_of text = option_and_then spoken_by (sender_in text)
