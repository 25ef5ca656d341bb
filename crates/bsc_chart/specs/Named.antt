-- The ladder of the trace that the words name: a file, or standard input.
use Rattle.std.specs.Prelude.{◌≡◌, ◌⊎◌, ◌==◌, ℕ, List, [], ◌∷◌, Option, Some, None, IfSome}
use Rattle.std.specs.Prelude.{IsOkAnd, Result, Ok, Err, codes}
use Rattle.std.specs.Prelude.{if◌then◌else◌, string_bytes}
use Rattle.std.specs.Io.KnownBytes.{Appends}
use Rattle.std.specs.Str.{bytes_eq}
use Rattle.bsc_options.specs.ChartWords.{AskedChart}
use Rattle.bsc_text.specs.declared.unreadable.Unreadable.{Unreadable}
use Rattle.bsc_chart.specs.Asked.{HasFailed, IsEarly, drawing_of}
use Rattle.bsc_chart.specs.Errors.{IsLineError}
use Rattle.bsc_chart.specs.Inputs.{DrawsInput, HasStopped, passed_in}
use Rattle.bsc_chart.specs.declared.drawing.Drawing.{Drawing}
use Rattle.bsc_chart.specs.declared.error.ChartError.{ChartError}
use Rattle.bsc_chart.specs.declared.error.ChartError.TheVariants.{Input, Memory}
use Rattle.bsc_chart.specs.declared.named.TraceError.{TraceError}
use Rattle.bsc_chart.specs.declared.named.TraceError.TheVariants.{CannotRead, Chart}

-- The path of the file that is named; none if the trace is that on standard input.
abbrev pub file_of : Option (List ℕ) → Option (List ℕ)
file_of None = None
file_of (Some path) = if bytes_eq path (codes "-") then None else Some path

-- What an error says of the trace on standard input and of the output.
abbrev pub HasFailedInput : Drawing → TraceError → Option (List ℕ) → Option (List ℕ)
    → Option (List ℕ) → Type 0
HasFailedInput drawing (CannotRead path why) trace old new = ⊥
HasFailedInput drawing (Chart error) trace old new =
    IfSome trace (λ octets. HasStopped drawing error octets old new)

-- The same of the trace in a file: a failed read of it has the name of the file.
abbrev pub HasFailedFile : List ℕ → Drawing → TraceError → Option (List ℕ) → Option (List ℕ)
    → Option (List ℕ) → Type 0
HasFailedFile file drawing (CannotRead path why) trace old new =
    (string_bytes path ≡ file)
    × IfSome trace (λ octets. HasStopped drawing (Input why) octets old new)
HasFailedFile file drawing (Chart (Input why)) trace old new = ⊥
HasFailedFile file drawing (Chart error) trace old new =
    IfSome trace (λ octets. HasStopped drawing error octets old new)

-- The error that a file could not be read for this reason, or out of memory.
abbrev pub IsUnread : List ℕ → Unreadable → TraceError → Type 0
IsUnread file why (CannotRead path reason) = (string_bytes path ≡ file) × (reason ≡ why)
IsUnread file why (Chart error) = error ≡ Memory

-- The error for the trace in a file.
abbrev pub IsFileError : List ℕ → ChartError → TraceError → Type 0
IsFileError file (Input why) told = IsUnread file why told
IsFileError file error told = told ≡ Chart error

-- There is a trace of which this holds: what is left of standard input, if no file is named, and
-- otherwise what the file gives.
pub record HoldsOf (words : AskedChart) (input : Option (List ℕ))
    (Holds : Option (List ℕ) → Type 0) : Type 0 where
  pub trace : Option (List ℕ)
  pub named : file_of words.file ≡ None → trace ≡ input
  pub holds : Holds trace

-- The ladder of the trace was written as it was asked for.
abbrev pub IsDrawn : Result Drawing ChartError → Option (List ℕ) → Option (List ℕ)
    → Option (List ℕ) → Type 0
IsDrawn drawing old new trace =
    IfSome trace (λ octets. IsOkAnd drawing (λ d. DrawsInput d octets old new))

-- So many lines of the trace were passed over.
abbrev pub HasPassed : ℕ → Option (List ℕ) → Type 0
HasPassed count trace = IfSome trace (λ octets. count ≡ passed_in octets)

-- What a machine is told if so many lines were passed over: the number, if it is not 0.
abbrev pub told_for : ℕ → List ℕ
told_for count = if count == 0 then [] else count ∷ []

-- What an error of the words, of the trace or of the output says of these.
abbrev pub SaysOf : Result Drawing ChartError → ChartError → Option (List ℕ) → Option (List ℕ)
    → Option (List ℕ) → Type 0
SaysOf drawing error old new trace =
    IfSome trace (λ octets. HasFailed drawing error octets old new)

-- What an error says, if this is how the words ask to draw. That a file cannot be read is told of
-- the file that is named only.
abbrev pub HasFailedAs : AskedChart → Result Drawing ChartError → TraceError → Option (List ℕ)
    → Option (List ℕ) → Option (List ℕ) → Type 0
HasFailedAs words drawing (CannotRead path why) input old new =
    (file_of words.file ≡ Some (string_bytes path))
    × HoldsOf words input (SaysOf drawing (Input why) old new)
HasFailedAs words drawing (Chart error) input old new =
    HoldsOf words input (SaysOf drawing error old new)

-- Of a machine, `tells` is what it may tell of the width of its terminal, `opens` which file it may
-- open at a path, `refuses` why it may open none there, and `remaining` what is left to read from a
-- file. `before` and `after` are the numbers of lines that it was told as passed over before and
-- after the work, where they are known.

-- The ladder of the trace that is named was written, and so many of its lines were passed over:
-- that of a file that the machine opened at the path, or, if none is named, that on standard input.
abbrev pub DrawsNamed : {F : Type 0} → (List ℕ → F → Type 0) → (F → Option (List ℕ))
    → Option (List ℕ) → Result Drawing ChartError → Option (List ℕ) → Option (List ℕ)
    → Option (List ℕ) → ℕ → Type 0
DrawsNamed opens remaining None drawing input old new count =
    IsDrawn drawing old new input × HasPassed count input
DrawsNamed {F} opens remaining (Some path) drawing input old new count =
    (file : F) × opens path file × IsDrawn drawing old new (remaining file)
    × HasPassed count (remaining file)

-- The same, and the machine was told this number, unless it is 0.
pub record DrawsTold {F : Type 0} (opens : List ℕ → F → Type 0) (remaining : F → Option (List ℕ))
    (file : Option (List ℕ)) (drawing : Result Drawing ChartError)
    (input old new before after : Option (List ℕ)) : Type 0 where
  pub count : ℕ
  pub drawn : DrawsNamed opens remaining file drawing input old new count
  pub told : Appends before after (told_for count)

-- The same, as the words ask to draw on a terminal of which the machine tells the width.
abbrev pub ChartsNamed : {F : Type 0} → (Option (List ℕ) → Type 0) → (List ℕ → F → Type 0)
    → (F → Option (List ℕ)) → AskedChart → Option (List ℕ) → Option (List ℕ) → Option (List ℕ)
    → Option (List ℕ) → Option (List ℕ) → Type 0
ChartsNamed tells opens remaining words input old new before after =
    (columns : Option (List ℕ)) × tells columns
    × DrawsTold opens remaining (file_of words.file) (drawing_of columns words) input old new
    before after

-- The machine did not open a file at this path, for the reason that the error tells unless memory
-- ran out, and nothing was written.
abbrev pub IsUnopened : (List ℕ → Unreadable → Type 0) → List ℕ → TraceError → Option (List ℕ)
    → Option (List ℕ) → Type 0
IsUnopened refuses path error old new =
    (why : Unreadable) × refuses path why × IsUnread path why error × (new ≡ old)

-- What an error says of the trace in the file at this path: the machine did not open it, or that is
-- what it says of the file that it opened there.
abbrev pub FailsAt : {F : Type 0} → (List ℕ → F → Type 0) → (List ℕ → Unreadable → Type 0)
    → (F → Option (List ℕ)) → List ℕ → Drawing → TraceError → Option (List ℕ)
    → Option (List ℕ) → Type 0
FailsAt {F} opens refuses remaining path drawing error old new =
    IsUnopened refuses path error old new
    ⊎ ((file : F) × opens path file
    × HasFailedFile path drawing error (remaining file) old new)

-- What it says of the trace that is named.
abbrev pub FailsNamed : {F : Type 0} → (List ℕ → F → Type 0) → (List ℕ → Unreadable → Type 0)
    → (F → Option (List ℕ)) → Option (List ℕ) → Drawing → TraceError → Option (List ℕ)
    → Option (List ℕ) → Option (List ℕ) → Type 0
FailsNamed opens refuses remaining None drawing error input old new =
    HasFailedInput drawing error input old new
FailsNamed opens refuses remaining (Some path) drawing error input old new =
    FailsAt opens refuses remaining path drawing error old new

-- The same, if this is how the words ask to draw: of wrong words the error is told, and nothing is
-- written.
abbrev pub FailsAs : {F : Type 0} → (List ℕ → F → Type 0) → (List ℕ → Unreadable → Type 0)
    → (F → Option (List ℕ)) → Option (List ℕ) → Result Drawing ChartError → TraceError
    → Option (List ℕ) → Option (List ℕ) → Option (List ℕ) → Type 0
FailsAs opens refuses remaining file (Err why) error input old new =
    (error ≡ Chart why) × (new ≡ old)
FailsAs opens refuses remaining file (Ok drawing) error input old new =
    FailsNamed opens refuses remaining file drawing error input old new

-- The same, as the words ask to draw on a terminal of which the machine tells the width.
abbrev pub FailsChart : {F : Type 0} → (Option (List ℕ) → Type 0) → (List ℕ → F → Type 0)
    → (List ℕ → Unreadable → Type 0) → (F → Option (List ℕ)) → AskedChart → TraceError
    → Option (List ℕ) → Option (List ℕ) → Option (List ℕ) → Type 0
FailsChart tells opens refuses remaining words error input old new =
    (columns : Option (List ℕ)) × tells columns
    × FailsAs opens refuses remaining (file_of words.file) (drawing_of columns words) error input
    old new

-- The ladder of the trace that the words name was written as they ask for, on a terminal of which
-- this width is told.
pub record IsCharted (words : AskedChart) (input old new : Option (List ℕ)) : Type 0 where
  pub columns : Option (List ℕ)
  pub drawn : HoldsOf words input (IsDrawn (drawing_of columns words) old new)

-- What an error says of the words, of the trace that they name and of the output.
pub record HasFailedTrace (words : AskedChart) (error : TraceError)
    (input old new : Option (List ℕ)) : Type 0 where
  pub columns : Option (List ℕ)
  pub says : HasFailedAs words (drawing_of columns words) error input old new

-- The errors of the words, before anything is opened, read or written.
abbrev pub IsEarlyTrace : TraceError → Type 0
IsEarlyTrace (CannotRead path why) = ⊥
IsEarlyTrace (Chart error) = IsEarly error

-- The other errors.
abbrev pub IsLateTrace : TraceError → Type 0
IsLateTrace (CannotRead path why) = Unit {0}
IsLateTrace (Chart error) = IsLineError error
