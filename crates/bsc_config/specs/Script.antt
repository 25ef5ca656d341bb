-- A whole script.
use Rattle.std.specs.Prelude.{ℕ, ◌+◌, List, [], ◌∷◌, ◌++◌, Option, Some, None}
use Rattle.std.specs.Prelude.{Result, Ok, Err, if◌then◌else◌}
use Rattle.bsc_text.specs.InputLines.{is_skipped, lines_of}
use Rattle.bsc_config.specs.Events.{Event, event_of}
use Rattle.bsc_config.specs.Actions.{NumberedEvent}

-- The result of reading lines: their events in order, each with the number of its line; or the
-- number of the first line that is neither skipped nor an event.
abbrev pub Reading : Type 0
Reading = Result (List NumberedEvent) ℕ

-- These events followed by those of further lines, if no further line is wrong.
abbrev pub after_these : List NumberedEvent → Reading → Reading
after_these events (Ok more) = Ok (events ++ more)
after_these events (Err number) = Err number

-- The result for a line with this number that is not skipped, followed by further lines. If it has
-- no event, it is the wrong line.
abbrev pub with_line : ℕ → Option Event → Reading → Reading
with_line number None rest = Err number
with_line number (Some event) rest = after_these (record { line = number; event = event } ∷ []) rest

-- The result of reading lines; `number` is the number of the first.
abbrev pub events_from : ℕ → List (List ℕ) → Reading
events_from number [] = Ok []
events_from number (line ∷ more) =
    if is_skipped line then events_from (number + 1) more
    else with_line number (event_of line) (events_from (number + 1) more)

-- The result of reading a text. Its lines are counted from 1.
abbrev pub events_of : List ℕ → Reading
events_of text = events_from 1 (lines_of text)
