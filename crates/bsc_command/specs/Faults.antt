-- The faults of the command.
use Rattle.std.specs.Prelude.{◌≡◌, ◌≢◌, ◌⊎◌, ℕ, Bool, true, false, if◌then◌else◌, List, [], ◌∷◌}
use Rattle.std.specs.Prelude.{◌++◌, codes}
use Rattle.std.specs.List.{AllPass}
use Rattle.clap.specs.Words.{kind_of}
use Rattle.clap.specs.declared.error.Error.{Error}
use Rattle.clap.specs.declared.error.kind.ErrorKind.{ErrorKind}
use Rattle.clap.specs.declared.error.kind.ErrorKind.TheVariants as kind
use Rattle.bsc_attending.specs.declared.error.AttendingError.{AttendingError}
use Rattle.bsc_attending.specs.declared.error.AttendingError.TheVariants as attending
use Rattle.bsc_attending.specs.Errors.{IsEarly as IsEarlyAttending}
use Rattle.bsc_chart.specs.declared.error.ChartError.{ChartError}
use Rattle.bsc_chart.specs.declared.error.ChartError.TheVariants as chart
use Rattle.bsc_chart.specs.declared.named.TraceError.{TraceError}
use Rattle.bsc_chart.specs.declared.named.TraceError.TheVariants as trace
use Rattle.bsc_clients.specs.declared.command.error.FeedError.{FeedError}
use Rattle.bsc_clients.specs.declared.command.error.FeedError.TheVariants as feed
use Rattle.bsc_trace.specs.Errors.{IsLineError, IsNameError}
use Rattle.bsc_trace.specs.declared.naming.error.NamingError.TheVariants as naming
use Rattle.bsc_options.specs.Errors.{is_conflict, refusal}
use Rattle.bsc_options.specs.declared.error.OptionError.{OptionError}
use Rattle.bsc_text.specs.Lines.{in_lines}
use Rattle.bsc_text.specs.Forms.{AreOctets, escaped, is_printable}
use Rattle.bsc_run.specs.declared.error.RunError.{RunError}
use Rattle.bsc_run.specs.declared.error.RunError.TheVariants as run
use Rattle.bsc_run.specs.declared.running_error.RunningError.{RunningError}
use Rattle.bsc_run.specs.declared.running_error.RunningError.TheVariants as running
use Rattle.bsc_run.specs.Errors.{IsEarly as IsEarlyRunning}
use Rattle.bsc_storing.specs.declared.error.StoringError.{StoringError}
use Rattle.bsc_storing.specs.declared.error.StoringError.TheVariants as storing
use Rattle.bsc_command.specs.declared.fault.Fault.{Fault}
use Rattle.bsc_command.specs.declared.fault.Fault.TheVariants.{Naming, Charting, Running}
use Rattle.bsc_command.specs.declared.fault.Fault.TheVariants.{Attending, Feeding, Storing}
use Rattle.bsc_command.specs.declared.fault.Fault.TheVariants.{Output, OutOfMemory, Usage}

-- The exit status for an error of a run: 3 if the line refused an event, otherwise 1.
abbrev pub run_status_of : RunError → ℕ
run_status_of (run.Refused line why) = 3
run_status_of _ = 1

-- The exit status of a failed run: 2 for wrong usage.
abbrev pub running_status_of : RunningError → ℕ
running_status_of running.BothStandardInput = 2
running_status_of (running.Run error) = run_status_of error
running_status_of _ = 1

-- The exit status of a failed station: 2 for wrong usage and a wrong configuration, which another
-- start would find again, 3 for records in doubt, 4 for undelivered records, 5 for a line that is
-- not trusted, 6 for records that arrived and could not be printed, 7 for what could not be kept.
abbrev pub attending_status_of : AttendingError → ℕ
attending_status_of (attending.Options error) = 2
attending_status_of (attending.Config error) = 2
attending_status_of attending.InDoubt = 3
attending_status_of attending.Undelivered = 4
attending_status_of attending.NotTrusted = 5
attending_status_of attending.Unprinted = 6
attending_status_of (attending.Unkept error) = 7
attending_status_of _ = 1

-- The exit status of a work on a store that was not done: 2 for wrong usage, 3 for a doubt that was
-- not released, and for stores that do not fit together.
abbrev pub storing_status_of : StoringError → ℕ
storing_status_of storing.NoTerminal = 2
storing_status_of (storing.Release error) = 3
storing_status_of storing.Apart = 3
storing_status_of _ = 1

-- The exit status of a fault: 2 for wrong usage, that of a run, a station or a work on a store,
-- otherwise 1.
abbrev pub status_of : Fault → ℕ
status_of (Usage text) = 2
status_of (Running error) = running_status_of error
status_of (Attending error) = attending_status_of error
status_of (Storing error) = storing_status_of error
status_of _ = 1

-- The faults of printing the help or the version, of reading the arguments, and of flushing the
-- output.
abbrev pub IsPrintFault : Fault → Type 0
IsPrintFault Output = Unit {0}
IsPrintFault OutOfMemory = Unit {0}
IsPrintFault _ = ⊥

-- Whether a station could not print the records that arrived, or could not keep what happened.
abbrev pub is_about_records : Fault → Bool
is_about_records (Attending attending.Unprinted) = true
is_about_records (Attending (attending.Unkept _)) = true
is_about_records _ = false

-- The faults that are told only if the output was flushed: all but those of printing, and those of
-- a station about its records, which are told whether the output was flushed or not.
abbrev pub IsToldFlushed : Fault → Type 0
IsToldFlushed Output = ⊥
IsToldFlushed OutOfMemory = ⊥
IsToldFlushed (Attending attending.Unprinted) = ⊥
IsToldFlushed (Attending (attending.Unkept _)) = ⊥
IsToldFlushed _ = Unit {0}

-- The fault for arguments that `clap` refuses. Out of memory and wrong usage are separate faults.
pub record IsWordsFault (error : Error) (fault : Fault) : Type 0 where
  pub memory : kind_of error ≡ kind.OutOfMemory → fault ≡ OutOfMemory
  pub usage : kind_of error ≢ kind.OutOfMemory → fault ≡ Usage error

-- The fault is wrong usage of this kind, unless memory ran out.
abbrev pub IsUsageOf : ErrorKind → Fault → Type 0
IsUsageOf kind (Usage error) = kind_of error ≡ kind
IsUsageOf kind OutOfMemory = Unit {0}
IsUsageOf kind _ = ⊥

-- The fault for an error of a run. Wrong arguments are wrong usage.
abbrev pub IsRunningFault : RunningError → Fault → Type 0
IsRunningFault running.BothStandardInput fault = IsUsageOf kind.ArgumentConflict fault
IsRunningFault error fault = fault ≡ Running error

-- The fault for a trace that was not drawn. Several forms, a wrong width and a wrong line are wrong
-- usage.
abbrev pub IsChartFault : ChartError → Fault → Type 0
IsChartFault chart.Forms fault = IsUsageOf kind.ArgumentConflict fault
IsChartFault chart.Width fault = IsUsageOf kind.InvalidValue fault
IsChartFault chart.Lines fault = IsUsageOf kind.InvalidValue fault
IsChartFault error fault = fault ≡ Charting (trace.Chart error)

-- The fault for the trace that was named and not drawn.
abbrev pub IsTraceFault : TraceError → Fault → Type 0
IsTraceFault (trace.Chart error) fault = IsChartFault error fault
IsTraceFault error fault = fault ≡ Charting error

-- The kind of wrong usage for refused options: they conflict or one is missing, or a value is
-- wrong.
abbrev pub options_kind : OptionError → ErrorKind
options_kind error =
    if is_conflict (refusal error) then kind.ArgumentConflict else kind.InvalidValue

-- The fault for an error of a station. Wrong arguments are wrong usage.
abbrev pub IsAttendingFault : AttendingError → Fault → Type 0
IsAttendingFault (attending.Options error) fault = IsUsageOf (options_kind error) fault
IsAttendingFault error fault = fault ≡ Attending error

-- The fault for a station that was not fed. Words that are more than one line are wrong usage.
abbrev pub IsFeedingFault : FeedError → Fault → Type 0
IsFeedingFault feed.NotOneLine fault = IsUsageOf kind.InvalidValue fault
IsFeedingFault error fault = fault ≡ Feeding error

-- The faults of naming one transmission.
abbrev pub IsNameFault : Fault → Type 0
IsNameFault (Naming error) = IsNameError error
IsNameFault _ = ⊥

-- The faults of naming the lines of standard input.
abbrev pub IsNamesFault : Fault → Type 0
IsNamesFault (Naming error) = IsLineError error
IsNamesFault _ = ⊥

-- The faults of drawing a trace.
abbrev pub IsChartingFault : Fault → Type 0
IsChartingFault (Charting error) = Unit {0}
IsChartingFault fault = IsUsageOf kind.InvalidValue fault ⊎ IsUsageOf kind.ArgumentConflict fault

-- The faults of a run.
abbrev pub IsRunFault : Fault → Type 0
IsRunFault (Running error) = Unit {0}
IsRunFault fault = IsUsageOf kind.ArgumentConflict fault

-- The faults of a station.
abbrev pub IsStationFault : Fault → Type 0
IsStationFault (Attending error) = Unit {0}
IsStationFault fault = IsUsageOf kind.InvalidValue fault ⊎ IsUsageOf kind.ArgumentConflict fault

-- The faults of feeding a station.
abbrev pub IsFeedFault : Fault → Type 0
IsFeedFault (Feeding error) = Unit {0}
IsFeedFault fault = IsUsageOf kind.InvalidValue fault

-- The faults of a work on a store.
abbrev pub IsStoreFault : Fault → Type 0
IsStoreFault (Storing error) = Unit {0}
IsStoreFault fault = IsUsageOf kind.InvalidValue fault ⊎ IsUsageOf kind.ArgumentConflict fault

-- The faults that come before anything is printed.
abbrev pub IsEarly : Fault → Type 0
IsEarly (Naming naming.NotHexadecimal) = Unit {0}
IsEarly (Running error) = IsEarlyRunning error
IsEarly (Attending error) = IsEarlyAttending error
IsEarly (Usage text) = Unit {0}
IsEarly _ = ⊥

-- The line of a fault with this text: the name of the program, and the text as it is printed within
-- a line.
abbrev pub fault_line : List ℕ → List ℕ
fault_line text = codes "bscline: " ++ escaped text ++ 10 ∷ []

-- What is told of a fault with this text: wrong usage as lines, any other fault as one line.
abbrev pub told_text : Fault → List ℕ → List ℕ
told_text (Usage error) text = in_lines text
told_text _ text = fault_line text

-- The line of a fault is one line, whatever its text is: printable characters, and a line feed.
abbrev pub IsOneFaultLine : Type 0
IsOneFaultLine =
    (text : List ℕ) → AreOctets text → (line : List ℕ) × AllPass is_printable line
    × (fault_line text ≡ line ++ 10 ∷ [])
