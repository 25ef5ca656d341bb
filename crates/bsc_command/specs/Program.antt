-- The output of the program for its work.
use Rattle.std.specs.Prelude.{◌≡◌, ◌⊎◌, ℕ, Bool, List, [], Option, None, IfSome, IsSomeAnd}
use Rattle.std.specs.Prelude.{Ok, Err, Some, true}
use Rattle.std.specs.Io.KnownBytes.{Keeps}
use Rattle.clap.specs.Words.{HasKind, Text as WordText, kind_of}
use Rattle.clap.specs.declared.error.Error.{Error}
use Rattle.bsc_options.specs.ChartWords.{AskedChart}
use Rattle.bsc_options.specs.Words.{WordsValue}
use Rattle.bsc_options.specs.StoreWords.{AskedStore}
use Rattle.bsc_options.specs.Asked.{AskedValue, names, name, show, chart, run, station, feed, store}
use Rattle.bsc_attending.specs.Outcomes.{IsAnswer, IsReported}
use Rattle.bsc_attending.specs.declared.error.AttendingError.{AttendingError}
use Rattle.bsc_attending.specs.declared.error.AttendingError.TheVariants as attending
use Rattle.bsc_chart.specs.Named.{ChartsNamed, FailsChart, HasFailedTrace, IsCharted, file_of}
use Rattle.bsc_chart.specs.declared.named.TraceError.{TraceError}
use Rattle.bsc_clients.specs.Answers.{EndsInFault}
use Rattle.bsc_clients.specs.Feeding.{HasFed}
use Rattle.bsc_clients.specs.declared.command.error.FeedError.TheVariants as feed_error
use Rattle.bsc_text.specs.declared.unreadable.Unreadable.{Unreadable}
use Rattle.bsc_text.specs.Hexadecimal.{octets_of}
use Rattle.bsc_text.specs.Names.{Prints, name_line}
use Rattle.bsc_text.specs.declared.printed.Detail.{Detail}
use Rattle.bsc_text.specs.declared.printed.Detail.TheVariants.{Name, Units}
use Rattle.bsc_trace.specs.Inputs.{HasStopped, PrintsInput}
use Rattle.bsc_trace.specs.declared.naming.error.NamingError.TheVariants.{NotHexadecimal}
use Rattle.bsc_options.specs.declared.error.OptionError.{OptionError}
use Rattle.bsc_options.specs.Errors.{refusal}
use Rattle.bsc_options.specs.StoreWorks.{WorkValue, work_in}
use Rattle.bsc_run.specs.Crossing.{streams_of}
use Rattle.bsc_run.specs.Plays.{holding}
use Rattle.bsc_run.specs.Running.{HasFailed, IsRunDone, TextPaths}
use Rattle.bsc_run.specs.declared.running_error.RunningError.{RunningError}
use Rattle.bsc_run.specs.declared.running_error.RunningError.TheVariants.{BothStandardInput}
use Rattle.bsc_words.specs.CommandLine.{IsHelp, asked_of, faults_at}
use Rattle.bsc_command.specs.declared.fault.Fault.{Fault}
use Rattle.bsc_command.specs.declared.fault.Fault.TheVariants.{Naming, Charting, Running}
use Rattle.bsc_command.specs.declared.fault.Fault.TheVariants.{Attending, Feeding, OutOfMemory}
use Rattle.bsc_command.specs.declared.fault.Fault.TheVariants.{Storing}
use Rattle.bsc_command.specs.declared.fault.Fault.TheVariants.{Usage}
use Rattle.bsc_command.specs.Faults.{IsChartingFault, IsNameFault, IsNamesFault}
use Rattle.bsc_command.specs.Faults.{IsPrintFault, IsRunFault, IsStationFault, IsStoreFault}
use Rattle.bsc_command.specs.Faults.{IsAttendingFault, IsFeedFault, IsTraceFault}
use Rattle.bsc_command.specs.Faults.{options_kind}

-- What a fault of naming one transmission says: its text is not hexadecimal.
abbrev pub HasFailedName : Fault → List ℕ → Type 0
HasFailedName (Naming NotHexadecimal) text = octets_of text ≡ None
HasFailedName fault text = Unit {0}

-- What a fault of naming the lines of standard input says: the line with this number is the first
-- that is wrong or too long, and the output for the lines before it was printed; or the input could
-- not be read further, and the output for some first lines was printed; or standard output failed
-- or memory ran out, and a front of the output for some first lines was printed.
abbrev pub HasFailedLines : Fault → Detail → Option (List ℕ) → Option (List ℕ)
    → Option (List ℕ) → Type 0
HasFailedLines (Naming error) detail input old new =
    IfSome input (λ octets. HasStopped detail error octets old new)
HasFailedLines fault detail input old new = Unit {0}

-- What a fault of a station says: what is wrong before it makes its connections, or that it was
-- prepared. Wrong usage is that options are refused, and is of the kind of the reason.
abbrev pub HasFailedStation : Fault → WordsValue → Option (List ℕ) → Type 0
HasFailedStation (Attending error) words input = IsAnswer words input (Err error)
HasFailedStation (Usage error) words input =
    (why : OptionError) × (kind_of error ≡ options_kind why)
    × IsAnswer words input (Err (attending.Options why))
HasFailedStation fault words input = Unit {0}

-- What a fault of feeding a station says: the station refused a command, and the last line that was
-- printed is its answer.
abbrev pub HasFailedFeed : Fault → Option (List ℕ) → Option (List ℕ) → Type 0
HasFailedFeed (Feeding feed_error.Refused) old new = EndsInFault old new
HasFailedFeed fault old new = Unit {0}

-- The words of `store` are those of a work.
abbrev pub HasWork : AskedStore → Type 0
HasWork words = (work : WorkValue) × (work_in words ≡ Ok work)

-- What a fault of a work on a store says: its words are those of a work; or they are refused, with
-- wrong usage of the kind of the reason.
abbrev pub HasFailedStore : Fault → AskedStore → Type 0
HasFailedStore (Storing error) words = HasWork words
HasFailedStore (Usage error) words =
    (why : OptionError) × (kind_of error ≡ options_kind why) × (work_in words ≡ Err (refusal why))
HasFailedStore fault words = Unit {0}

-- What a fault of drawing a trace says: the line with this number is the first that is too long,
-- and of the lines before it the rows of a text were written, and nothing of a picture; or the page
-- is full; or the file that is named could not be read.
abbrev pub HasFailedChart : Fault → AskedChart → Option (List ℕ) → Option (List ℕ)
    → Option (List ℕ) → Type 0
HasFailedChart (Charting error) words input old new = HasFailedTrace words error input old new
HasFailedChart fault words input old new = Unit {0}

-- Of the machine on which a trace is drawn, `tells` is what it may tell of the width of its
-- terminal, `opens` which file it may open at a path, `refuses` why it may open none there, and
-- `remaining` what is left to read from a file. `before` and `after` are the numbers of lines that
-- it was told as passed over before and after the work, where they are known.

-- If this work draws a trace, it was drawn as it is asked for on that machine: the trace of
-- standard input, or that of the file that was opened at its path. The machine was told how many of
-- its lines were passed over, unless it is none.
abbrev pub IsChartedOn : {F : Type 0} → (Option (List ℕ) → Type 0) → (List ℕ → F → Type 0)
    → (F → Option (List ℕ)) → AskedValue → Option (List ℕ) → Option (List ℕ)
    → Option (List ℕ) → Option (List ℕ) → Option (List ℕ) → Type 0
IsChartedOn tells opens remaining (chart words) input old new before after =
    ChartsNamed tells opens remaining words input old new before after
IsChartedOn tells opens remaining asked input old new before after = Unit {0}

-- If this work draws a trace, the fault is that of an error that says what it does of that machine,
-- and the machine was told nothing.
abbrev pub HasFailedOn : {F : Type 0} → (Option (List ℕ) → Type 0) → (List ℕ → F → Type 0)
    → (List ℕ → Unreadable → Type 0) → (F → Option (List ℕ)) → AskedValue → Fault
    → Option (List ℕ) → Option (List ℕ) → Option (List ℕ) → Option (List ℕ) → Option (List ℕ)
    → Type 0
HasFailedOn tells opens refuses remaining (chart words) fault input old new before after =
    (error : TraceError) × IsTraceFault error fault
    × FailsChart tells opens refuses remaining words error input old new × Keeps before after
HasFailedOn tells opens refuses remaining asked fault input old new before after = Unit {0}

-- This holds, if the work draws the trace in a file.
abbrev pub IfNamed : AskedValue → Type 0 → Type 0
IfNamed (chart words) Holds = (path : List ℕ) → file_of words.file ≡ Some path → Holds
IfNamed asked Holds = Unit {0}

-- For the writer of the output, `held` is what was written to it.
module _ {W : Type 0} (held : W → Option (List ℕ)) where
  -- If this work attends a station, the station ended, and what it prints at its end was the last
  -- that was written.
  abbrev pub IsReportedOn : AskedValue → Option (List ℕ) → W → Type 0
  IsReportedOn (station words) input new = IsReported held words input (Ok tt) new
  IsReportedOn asked input new = Unit {0}

  -- If this work attends a station, the fault is that of an error with which the station did not
  -- end, or that is the result of one whose report was the last that was written.
  abbrev pub HasFailedReport : AskedValue → Fault → Option (List ℕ) → W → Type 0
  HasFailedReport (station words) fault input new =
      (error : AttendingError) × IsAttendingFault error fault
      × IsReported held words input (Err error) new
  HasFailedReport asked fault input new = Unit {0}

-- For the streams of a run's cable, `contents` is what was written to a stream, and `remaining` is
-- what is left to read from it. For the writer of its trace, `held` is what was written to it, and
-- `traces` which writer may be that of what is traced, or of what is not.
module _ {S D : Type 0} (contents remaining : S → Option (List ℕ)) (held : D → Option (List ℕ))
    (traces : Bool → D → Type 0) where
  -- The run was done. `told` and `tells` are the writer of its trace before and after it.
  pub record HasDoneRun (check trace : Bool) (paths : TextPaths) (old new : Option (List ℕ))
      : Type 0 where
    pub told : D
    pub is_traced : traces true told
    pub tells : D
    pub done : IsRunDone (streams_of contents remaining) trace check paths
        (holding old (held told)) (holding new (held tells))

  -- The work succeeded with this input, and the contents of the writer went from `old` to `new`.
  abbrev pub IsDone : AskedValue → Option (List ℕ) → Option (List ℕ) → Option (List ℕ) → Type 0
  IsDone names input old new = IfSome input (λ octets. PrintsInput Name octets old new)
  IsDone (name text) input old new =
      IsSomeAnd (octets_of text) (λ octets. Prints name_line octets old new)
  IsDone show input old new = IfSome input (λ octets. PrintsInput Units octets old new)
  IsDone (chart words) input old new = IsCharted words input old new
  IsDone (run config script check trace quiet) input old new =
      HasDoneRun check trace (record { config = config; script = script; input = input }) old new
  IsDone (station words) input old new = IsAnswer words input (Ok tt)
  IsDone (feed address command) input old new = HasFed command input old new
  IsDone (store words) input old new = HasWork words

  -- The run failed with this error. `told` and `tells` are as above.
  pub record HasFailedWith (error : RunningError) (check trace : Bool) (paths : TextPaths)
      (old new : Option (List ℕ)) : Type 0 where
    pub told : D
    pub is_traced : traces true told
    pub tells : D
    pub says : HasFailed (streams_of contents remaining) trace error check paths
        (holding old (held told)) (holding new (held tells))

  -- What a fault of a run says of its texts, of the output and of the trace. Wrong usage is that
  -- both texts are to be standard input.
  abbrev pub HasFailedRun : Fault → Bool → Bool → TextPaths → Option (List ℕ)
      → Option (List ℕ) → Type 0
  HasFailedRun (Running error) check trace paths old new =
      HasFailedWith error check trace paths old new
  HasFailedRun (Usage error) check trace paths old new =
      HasFailedWith BothStandardInput check trace paths old new
  HasFailedRun fault check trace paths old new = Unit {0}

  -- What a fault of this work says of its input and of the output.
  abbrev pub HasFailedAs : AskedValue → Fault → Option (List ℕ) → Option (List ℕ)
      → Option (List ℕ) → Type 0
  HasFailedAs names fault input old new = HasFailedLines fault Name input old new
  HasFailedAs (name text) fault input old new = HasFailedName fault text
  HasFailedAs show fault input old new = HasFailedLines fault Units input old new
  HasFailedAs (chart words) fault input old new = HasFailedChart fault words input old new
  HasFailedAs (run config script check trace quiet) fault input old new =
      HasFailedRun fault check trace
      (record { config = config; script = script; input = input }) old new
  HasFailedAs (station words) fault input old new = HasFailedStation fault words input
  HasFailedAs (feed address command) fault input old new = HasFailedFeed fault old new
  HasFailedAs (store words) fault input old new = HasFailedStore fault words

-- The faults of this work.
abbrev pub IsFaultOf : AskedValue → Fault → Type 0
IsFaultOf names fault = IsNamesFault fault
IsFaultOf (name text) fault = IsNameFault fault
IsFaultOf show fault = IsNamesFault fault
IsFaultOf (chart words) fault = IsChartingFault fault
IsFaultOf (run config script check trace quiet) fault = IsRunFault fault
IsFaultOf (station words) fault = IsStationFault fault
IsFaultOf (feed address command) fault = IsFeedFault fault
IsFaultOf (store words) fault = IsStoreFault fault

-- The arguments ask for the help or the version.
abbrev pub AskForHelp : List WordText → Type 0
AskForHelp words = (error : Error) × HasKind (faults_at words) error × IsHelp (kind_of error)

-- The arguments were obeyed with this input: the help or the version was printed, or they are a
-- command and its work succeeded.
abbrev pub IsObeyed : {S D : Type 0} (contents remaining : S → Option (List ℕ))
    (held : D → Option (List ℕ)) (traces : Bool → D → Type 0) → List WordText
    → Option (List ℕ) → Option (List ℕ) → Option (List ℕ) → Type 0
IsObeyed contents remaining held traces words input old new =
    AskForHelp words
    ⊎ ((faults_at words ≡ [])
    × IsDone contents remaining held traces (asked_of words) input old new)

-- The same of the report of a station that they ask for.
abbrev pub IsReportedAt : {W : Type 0} (held : W → Option (List ℕ)) → List WordText
    → Option (List ℕ) → W → Type 0
IsReportedAt held words input new =
    AskForHelp words ⊎ ((faults_at words ≡ []) × IsReportedOn held (asked_of words) input new)

-- The work failed with this fault, which is one of it, and what it says is true.
pub record IsFailure {S D : Type 0} (contents remaining : S → Option (List ℕ))
    (held : D → Option (List ℕ)) (traces : Bool → D → Type 0) (asked : AskedValue)
    (fault : Fault) (input old new : Option (List ℕ)) : Type 0 where
  pub kind : IsFaultOf asked fault
  pub says : HasFailedAs contents remaining held traces asked fault input old new

-- A fault of the arguments: wrong usage of a kind that `clap` reports for them, and not that the
-- help or the version was asked for; unless memory ran out.
abbrev pub IsWordsUsage : List WordText → Fault → Type 0
IsWordsUsage words (Usage error) =
    HasKind (faults_at words) error × (IsHelp (kind_of error) → ⊥)
IsWordsUsage words OutOfMemory = Unit {0}
IsWordsUsage words _ = ⊥

-- A fault of the arguments, of printing, or of the work that the arguments ask for.
abbrev pub IsFaultAt : {S D : Type 0} (contents remaining : S → Option (List ℕ))
    (held : D → Option (List ℕ)) (traces : Bool → D → Type 0) → List WordText
    → Fault → Option (List ℕ) → Option (List ℕ) → Option (List ℕ) → Type 0
IsFaultAt contents remaining held traces words fault input old new =
    IsWordsUsage words fault
    ⊎ (IsPrintFault fault
    ⊎ IsFailure contents remaining held traces (asked_of words) fault input old new)

-- The same of the report of a station that they ask for.
abbrev pub HasFailedReportAt : {W : Type 0} (held : W → Option (List ℕ)) → List WordText → Fault
    → Option (List ℕ) → W → Type 0
HasFailedReportAt held words fault input new =
    IsWordsUsage words fault
    ⊎ (IsPrintFault fault ⊎ HasFailedReport held (asked_of words) fault input new)
