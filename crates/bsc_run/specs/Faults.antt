-- The errors of a run for those of its parts, and what causes each.
use Rattle.std.specs.Prelude.{◌≡◌, ◌||◌, ℕ, Bool, true, false, IsTrue, List, Option, IsSome}
use Rattle.std.specs.Prelude.{is_some, Result, Ok, Err}
use Rattle.std.specs.List.{Any}
use Rattle.bsc_carrier.specs.declared.error.CarrierError.{CarrierError}
use Rattle.bsc_line_model.specs.declared.error.LineError.{LineError}
use Rattle.bsc_text.specs.declared.error.PrintError.{PrintError}
use Rattle.bsc_text.specs.declared.error.PrintError.TheVariants as print
use Rattle.bsc_config.specs.Actions.{NumberedEvent}
use Rattle.bsc_config.specs.Events.{Event as Asked, carry, heard, heard_each}
use Rattle.bsc_run.specs.declared.error.StepError.{StepError}
use Rattle.bsc_run.specs.declared.error.StepError.TheVariants as step
use Rattle.bsc_run.specs.declared.error.RunError.{RunError}
use Rattle.bsc_run.specs.declared.error.RunError.TheVariants.{Output, Socket, Memory, Refused}

-- The error of a run for a failure to print.
abbrev pub run_fault : PrintError → RunError
run_fault print.Output = Output
run_fault print.Memory = Memory

abbrev pub print_fault : PrintError → StepError
print_fault print.Output = step.Output
print_fault print.Memory = step.Memory

-- The answer of a step for the answer of a line.
abbrev pub told : Result (Unit {0}) LineError → Result (Unit {0}) StepError
told (Ok done) = Ok done
told (Err why) = Err (step.Refused why)

-- The error of a run for an error of the step on this line of the script.
abbrev pub fault_at : ℕ → StepError → RunError
fault_at line step.Output = Output
fault_at line step.Socket = Socket line
fault_at line step.Memory = Memory
fault_at line (step.Refused why) = Refused line why

-- Whether octets cross the cable for the event: `carry`, `heard` or `heard-each`.
abbrev pub is_crossing : Asked → Bool
is_crossing carry = true
is_crossing (heard given) = true
is_crossing (heard_each items) = true
is_crossing _ = false

-- Whether each terminal hears an item of its own.
abbrev pub is_each : Asked → Bool
is_each (heard_each items) = true
is_each _ = false

-- The error is a fault of writing the trace, if there is one.
abbrev pub IsTraceFault : Option ℕ → StepError → Type 0
IsTraceFault number step.Socket = ⊥
IsTraceFault number (step.Refused why) = ⊥
IsTraceFault number _ = IsTrue (is_some number)

-- The error is such a fault, or a refusal of the line.
abbrev pub IsTraceFaultOrRefusal : Option ℕ → StepError → Type 0
IsTraceFaultOrRefusal number (step.Refused why) = Unit {0}
IsTraceFaultOrRefusal number error = IsTraceFault number error

-- What causes an error of an event. A socket fault: octets were to cross the cable, and it is
-- faulty now. Out of memory: it was wanted for the trace or for the items of the terminals. An
-- output fault: a trace was written.
abbrev pub HasCause : Option ℕ → Asked → Option CarrierError → StepError → Type 0
HasCause number asked fault step.Socket = IsTrue (is_crossing asked) × IsSome fault
HasCause number asked fault step.Memory = IsTrue (is_some number || is_each asked)
HasCause number asked fault step.Output = IsTrue (is_some number)
HasCause number asked fault (step.Refused why) = Unit {0}

-- What causes an error of a crossing, unless it is refused: the cable is faulty now.
abbrev pub IsCableFault : Option CarrierError → StepError → Type 0
IsCableFault fault step.Socket = IsSome fault
IsCableFault fault (step.Refused why) = Unit {0}
IsCableFault fault _ = ⊥

-- What causes an error of the crossing of items: the cable is faulty now, or memory was wanted for
-- them.
abbrev pub IsItemsFault : Option CarrierError → StepError → Type 0
IsItemsFault fault step.Socket = IsSome fault
IsItemsFault fault step.Memory = Unit {0}
IsItemsFault fault _ = ⊥

-- A run that a fault of the cable ended says so with the line of an event of the script for which
-- octets cross the cable, and the cable is faulty now.
abbrev pub TellsLine : List NumberedEvent → Option CarrierError → Result (Unit {0}) RunError
    → Type 0
TellsLine steps fault (Err (Socket line)) =
    Any (λ (step : NumberedEvent). (line ≡ step.line) × IsTrue (is_crossing step.event)) steps
    × IsSome fault
TellsLine steps fault _ = Unit {0}
