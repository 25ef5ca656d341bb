-- The ladder of the trace in a whole input.
use Rattle.std.specs.Prelude.{◌≡◌, ℕ, ◌+◌, ◌&&◌, ◌||◌, not, Bool, true, List, [], map, take, codes}
use Rattle.std.specs.Prelude.{count_by, position, is_none, Option, Some, None}
use Rattle.std.specs.Prelude.{if◌then◌else◌}
use Rattle.std.specs.Option.{option_to_list}
use Rattle.std.specs.Str.{bytes_eq}
use Rattle.bsc_text.specs.InputLines.{is_blank, lines_of, parts_of}
use Rattle.bsc_text.specs.Parts.{before_octet}
use Rattle.bsc_trace.specs.Texts.{Writes}
use Rattle.bsc_trace.specs.Inputs.{is_too_long}
use Rattle.bsc_trace.specs.Lines.{TraceValue, value_of}
use Rattle.bsc_chart.specs.Pages.{IsChart, IsEarlyText, PageValue, is_full, page_of}
use Rattle.bsc_chart.specs.declared.error.ChartError.{ChartError}
use Rattle.bsc_chart.specs.declared.error.ChartError.TheVariants.{TooLongAt}
use Rattle.bsc_chart.specs.declared.error.ChartError.TheVariants.{TooMany, Input}
use Rattle.bsc_chart.specs.declared.drawing.Drawing.{Drawing}

-- Whether a line is the fault with which the program ended, which is no part of its trace.
abbrev pub tells_fault : List ℕ → Bool
tells_fault line = bytes_eq (before_octet 32 line) (codes "bscline:")

-- Whether a line is skipped.
abbrev pub is_skipped : List ℕ → Bool
is_skipped line = is_blank line || tells_fault line

-- The value of a line: none if it is skipped or passed over.
abbrev pub values_at : List ℕ → List TraceValue
values_at line = if is_skipped line then [] else option_to_list (value_of line)

-- The values of lines, in order.
abbrev pub values_of : List (List ℕ) → List (List TraceValue)
values_of lines = map values_at lines

-- Whether a line is passed over: it is neither skipped nor a line of a trace.
abbrev pub is_passed : List ℕ → Bool
is_passed line = not (is_skipped line) && is_none (value_of line)

-- How many lines of the input are passed over.
abbrev pub passed_in : List ℕ → ℕ
passed_in input = count_by is_passed (lines_of input)

-- No line of the input is too long, and the ladder of all of them was written.
pub record DrawsInput (drawing : Drawing) (input : List ℕ) (old new : Option (List ℕ))
    : Type 0 where
  pub right : position is_too_long (parts_of input) ≡ None
  pub drawn : Writes (IsChart drawing (values_of (lines_of input))) old new

-- No line of the input is too long, the rows of a text were written, this was kept, and so many
-- lines were passed over.
pub record ReadsInput (drawing : Drawing) (input : List ℕ) (page : PageValue) (passed : ℕ)
    (old new : Option (List ℕ)) : Type 0 where
  pub right : position is_too_long (parts_of input) ≡ None
  pub kept : page ≡ page_of drawing (values_of (lines_of input))
  pub drawn : Writes (IsEarlyText drawing (values_of (lines_of input))) old new
  pub counted : passed ≡ passed_in input

-- The line with this number, counted from 1, is the first of the input that is too long. Of the
-- lines before it the rows of a text were written, and nothing else.
pub record StopsAt (drawing : Drawing) (number : ℕ) (input : List ℕ) (old new : Option (List ℕ))
    : Type 0 where
  pub place : ℕ
  pub counted : number ≡ place + 1
  pub first : position is_too_long (parts_of input) ≡ Some place
  pub before : Writes (IsEarlyText drawing (values_of (take place (lines_of input)))) old new

-- The page of some first lines of the input is full, and what is written for them early was
-- written, and nothing else.
pub record StopsFull (drawing : Drawing) (input : List ℕ) (old new : Option (List ℕ))
    : Type 0 where
  pub place : ℕ
  pub full : is_full (page_of drawing (values_of (take place (lines_of input)))) ≡ true
  pub before : Writes (IsEarlyText drawing (values_of (take place (lines_of input)))) old new

-- The rows of some first lines of the input were written, if it is a text, and nothing else.
pub record DrawsFirst (drawing : Drawing) (input : List ℕ) (old new : Option (List ℕ))
    : Type 0 where
  pub place : ℕ
  pub before : Writes (IsEarlyText drawing (values_of (take place (lines_of input)))) old new

-- What an error says of the input and of the output. Of an error while a line was written it says
-- nothing.
abbrev pub HasStopped : Drawing → ChartError → List ℕ → Option (List ℕ) → Option (List ℕ)
    → Type 0
HasStopped drawing (TooLongAt number) input old new = StopsAt drawing number input old new
HasStopped drawing TooMany input old new = StopsFull drawing input old new
HasStopped drawing (Input why) input old new = DrawsFirst drawing input old new
HasStopped drawing _ input old new = Unit {0}
