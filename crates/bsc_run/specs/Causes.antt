-- What ends a run of a script with an error.
use Rattle.std.specs.Prelude.{◌≡◌, ◌⊎◌, ◌||◌, ℕ, Bool, IsTrue, if◌then◌else◌, List, []}
use Rattle.std.specs.Prelude.{Option, IsSome, Result}
use Rattle.std.specs.Io.KnownBytes.{Appends}
use Rattle.std.specs.List.{Any}
use Rattle.bsc_carrier.specs.declared.error.CarrierError.{CarrierError}
use Rattle.bsc_line_model.specs.declared.event.Event.{Event}
use Rattle.bsc_line_model.specs.Kept.{IsNewLine}
use Rattle.bsc_line_model.specs.Line.{LineValue}
use Rattle.bsc_config.specs.Settings.{ConfigValue}
use Rattle.bsc_text.specs.declared.error.PrintError.{PrintError}
use Rattle.bsc_config.specs.Actions.{NumberedEvent}
use Rattle.bsc_run.specs.declared.error.RunError.{RunError}
use Rattle.bsc_run.specs.declared.error.RunError.TheVariants.{Output, Socket, Memory, Refused}
use Rattle.bsc_run.specs.Addresses.{addresses_traced}
use Rattle.bsc_run.specs.Crossing.{Streams}
use Rattle.bsc_run.specs.Faults.{is_crossing, is_each, run_fault}
use Rattle.bsc_run.specs.Plays.{Outside, Playing, Plays, Texts, holding, on_cable}
use Rattle.bsc_run.specs.Steps.{is_heard}

-- What causes an error of the event on a line of a script, with a trace or without one. An output
-- fault: a trace was written, or the line for what is pending. A socket fault: octets were to cross
-- the cable, and it is faulty now. Out of memory: it was wanted for the trace or for the items of
-- the terminals. A socket fault and a refusal tell that line.
abbrev pub HasStepCause : Bool → NumberedEvent → Option CarrierError → RunError → Type 0
HasStepCause tracing step fault Output = IsTrue (tracing || is_heard step.event)
HasStepCause tracing step fault (Socket line) =
    (line ≡ step.line) × IsTrue (is_crossing step.event) × IsSome fault
HasStepCause tracing step fault Memory = IsTrue (tracing || is_each step.event)
HasStepCause tracing step fault (Refused line why) = line ≡ step.line

-- The error is that of one of the events, with its cause.
abbrev pub HasEventCause : Bool → List NumberedEvent → Option CarrierError → RunError → Type 0
HasEventCause tracing steps fault error =
    Any (λ (step : NumberedEvent). HasStepCause tracing step fault error) steps

module _ {S : Type 0} (streams : Streams S) (tracing : Bool) where
  -- The events were performed, up to the end or to the first that is refused, and the lines of the
  -- trace for them were written. Then the report could not be printed.
  pub record IsUnreported (steps : List NumberedEvent) (old : Playing S) (error : RunError)
      (new : Playing S) : Type 0 where
    pub why : PrintError
    pub fault : error ≡ run_fault why
    pub answer : Result (Unit {0}) RunError
    pub text : Texts
    pub events : List Event
    pub plays : Plays streams steps events (on_cable old) answer (on_cable new) text
    pub traced : Appends old.outside.held.trace new.outside.held.trace
        (if tracing then text.trace else [])

  -- What ended a run of the events on a line with this error: one of them, for its cause; or the
  -- report after them.
  abbrev pub IsEnded : List NumberedEvent → Playing S → RunError → Playing S → Type 0
  IsEnded steps old error new =
      HasEventCause tracing steps new.outside.cable.fault error ⊎ IsUnreported steps old error new

  -- No event was performed and nothing was printed: the addresses of the terminals could not be
  -- written to the trace, or there was no memory for a line.
  pub record IsNotBegun (config : ConfigValue) (old : Outside S) (error : RunError)
      (new : Outside S) : Type 0 where
    pub cable : new.cable ≡ old.cable
    pub out : new.held.out ≡ old.held.out
    pub why : IsTrue tracing
        ⊎ (error ≡ Memory) × Appends old.held.trace new.held.trace
        (addresses_traced tracing config.terminals)

  -- The addresses of the terminals were written to the trace, if there is one, and the events were
  -- run on a new line with the configuration; one of them, or the report, ended the run.
  pub record IsBegun (config : ConfigValue) (steps : List NumberedEvent) (old : Outside S)
      (error : RunError) (new : Outside S) : Type 0 where
    pub begun : LineValue
    pub ended : LineValue
    pub new_line : IsNewLine config.setup config.terminals config.poll_list begun
    pub told : Option (List ℕ)
    pub addresses : Appends old.held.trace told (addresses_traced tracing config.terminals)
    pub ends : IsEnded steps
        (record {
          line = begun;
          outside = record { cable = old.cable; held = holding old.held.out told };
        }) error (record { line = ended; outside = new })

  -- What ended the run of a script on the line of a configuration with this error.
  abbrev pub IsScriptEnded : ConfigValue → List NumberedEvent → Outside S → RunError → Outside S
      → Type 0
  IsScriptEnded config steps old error new =
      IsNotBegun config old error new ⊎ IsBegun config steps old error new
