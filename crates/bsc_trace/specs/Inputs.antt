-- The output for the lines of a whole input.
use Rattle.std.specs.Prelude.{◌≡◌, ℕ, ◌+◌, ◌&&◌, ◌||◌, not, Bool, true, List, [], length, take}
use Rattle.std.specs.Prelude.{position, nat_lt, slice_index_or, Option, Some, None}
use Rattle.std.specs.Str.Lines.{strip_carriage_return}
use Rattle.bsc_text.specs.InputLines.{lines_of, parts_of}
use Rattle.bsc_text.specs.declared.input.TheConstants.{MAX_INPUT}
use Rattle.bsc_text.specs.declared.printed.Detail.{Detail}
use Rattle.bsc_trace.specs.NamingLines.{PrintsLines, PrintsLinesFront, is_wrong}
use Rattle.bsc_trace.specs.declared.naming.error.NamingError.{NamingError}
use Rattle.bsc_trace.specs.declared.naming.error.NamingError.TheVariants.{NotHexadecimal}
use Rattle.bsc_trace.specs.declared.naming.error.NamingError.TheVariants.{NotHexadecimalAt}
use Rattle.bsc_trace.specs.declared.naming.error.NamingError.TheVariants.{TooLongAt, Input, Output}
use Rattle.bsc_trace.specs.declared.naming.error.NamingError.TheVariants.{Memory}

-- Whether the text between two line feeds of an input is too long. A carriage return at its end
-- counts.
abbrev pub is_too_long : List ℕ → Bool
is_too_long part = nat_lt MAX_INPUT (length part)

-- Whether it is not too long, and is a wrong line without one carriage return at its end.
abbrev pub is_misspelt : List ℕ → Bool
is_misspelt part = not (is_too_long part) && is_wrong (strip_carriage_return part)

-- Whether it is refused: it is too long, or a wrong line.
abbrev pub is_refused : List ℕ → Bool
is_refused part = is_too_long part || is_wrong (strip_carriage_return part)

-- No line of the input is refused, and the output for all of them was printed.
pub record PrintsInput (detail : Detail) (input : List ℕ) (old new : Option (List ℕ))
    : Type 0 where
  pub right : position is_refused (parts_of input) ≡ None
  pub printed : PrintsLines detail (lines_of input) old new

-- The line with this number, counted from 1, is the first of the input that is refused, and it is
-- so for this reason. The output for the lines before it was printed, and nothing else.
pub record StopsAt (is_fault : List ℕ → Bool) (detail : Detail) (number : ℕ) (input : List ℕ)
    (old new : Option (List ℕ)) : Type 0 where
  pub place : ℕ
  pub counted : number ≡ place + 1
  pub first : position is_refused (parts_of input) ≡ Some place
  pub reason : is_fault (slice_index_or (parts_of input) place []) ≡ true
  pub before : PrintsLines detail (take place (lines_of input)) old new

-- The output for some first lines of the input was printed, and nothing else.
pub record PrintsFirst (detail : Detail) (input : List ℕ) (old new : Option (List ℕ))
    : Type 0 where
  pub place : ℕ
  pub before : PrintsLines detail (take place (lines_of input)) old new

-- What an error says of the input and of the output. After an output fault or out of memory a front
-- of the output for some first lines was printed.
abbrev pub HasStopped : Detail → NamingError → List ℕ → Option (List ℕ) → Option (List ℕ) → Type 0
HasStopped detail (NotHexadecimalAt number) input old new =
    StopsAt is_misspelt detail number input old new
HasStopped detail (TooLongAt number) input old new =
    StopsAt is_too_long detail number input old new
HasStopped detail Input input old new = PrintsFirst detail input old new
HasStopped detail Output input old new = PrintsLinesFront detail (lines_of input) old new
HasStopped detail Memory input old new = PrintsLinesFront detail (lines_of input) old new
HasStopped detail NotHexadecimal input old new = Unit {0}
