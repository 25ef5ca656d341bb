-- What causes the errors of an event and of a run.
use Rattle.std.proofs.Common.{◌≡◌, ◌<◌, ◌||◌, ◌∙◌, ℕ, Bool, true, false, IsTrue, is_some}
use Rattle.std.proofs.Common.{List, map, length, get_or, Option, Result, Ok, Err, refl, sym, ap}
use Rattle.std.proofs.Common.{subst}
use Rattle.std.proofs.lemmas.List.{get_or-map, length-map}
use Rattle.std.specs.Prelude.{IfErr}
use Rattle.bsc_carrier.specs.declared.error.CarrierError.{CarrierError}
use Rattle.bsc_line_model.specs.declared.error.LineError.{LineError}
use Rattle.bsc_config.specs.Actions.{NumberedEvent}
use Rattle.bsc_config.specs.Events.{Event as Asked}
use Rattle.bsc_run.specs.declared.error.RunError.{RunError}
use Rattle.bsc_run.specs.declared.error.RunError.TheVariants.{Output, Socket, Memory, Refused}
use Rattle.bsc_run.specs.declared.error.StepError.{StepError}
use Rattle.bsc_run.specs.declared.error.StepError.TheVariants as step
use Rattle.bsc_run.specs.Causes.{HasEventCause, HasStepCause}
use Rattle.bsc_run.specs.Faults.{HasCause, IsCableFault, IsItemsFault, IsTraceFault, TellsLine}
use Rattle.bsc_run.specs.Faults.{IsTraceFaultOrRefusal, is_crossing, is_each, told}

-- The error is a fault, not a refusal.
abbrev pub IsFault : StepError → Type 0
IsFault (step.Refused why) = ⊥
IsFault _ = Unit {0}

or_true : (a b : Bool) → IsTrue a → IsTrue (a || b)
or_true true b h = h
or_true false b h = let no : false ≡ true = h in absurd cc

or_true_after : (a b : Bool) → IsTrue b → IsTrue (a || b)
or_true_after true b h = refl
or_true_after false b h = h

-- a fault of the trace is a fault
pub trace_is_fault : (number : Option ℕ) (r : Result (Unit {0}) StepError)
    → IfErr r (IsTraceFault number) → IfErr r IsFault
trace_is_fault number (Ok done) h = tt
trace_is_fault number (Err step.Socket) h = absurd h
trace_is_fault number (Err (step.Refused why)) h = absurd h
trace_is_fault number (Err step.Output) h = tt
trace_is_fault number (Err step.Memory) h = tt

-- the answer of a line is no fault
pub told_cause : (number : Option ℕ) (r : Result (Unit {0}) LineError)
    → IfErr (told r) (IsTraceFaultOrRefusal number)
told_cause number (Ok done) = tt
told_cause number (Err why) = tt

-- the cause of an error of the trace, of a crossing or of the items is one of an event
pub cause_of_traced : (number : Option ℕ) (asked : Asked) (fault : Option CarrierError)
    (r : Result (Unit {0}) StepError) → IfErr r (IsTraceFault number)
    → IfErr r (HasCause number asked fault)
cause_of_traced number asked fault (Ok done) h = tt
cause_of_traced number asked fault (Err step.Socket) h = absurd h
cause_of_traced number asked fault (Err (step.Refused why)) h = tt
cause_of_traced number asked fault (Err step.Output) h = h
cause_of_traced number asked fault (Err step.Memory) h = or_true (is_some number) (is_each asked) h

pub cause_of_crossing : (number : Option ℕ) (asked : Asked) (fault : Option CarrierError)
    (error : StepError) → IsTrue (is_crossing asked) → IsCableFault fault error
    → HasCause number asked fault error
cause_of_crossing number asked fault step.Socket crossing h = (crossing, h)
cause_of_crossing number asked fault (step.Refused why) crossing h = tt
cause_of_crossing number asked fault step.Output crossing h = absurd h
cause_of_crossing number asked fault step.Memory crossing h = absurd h

pub cause_of_items : (number : Option ℕ) (asked : Asked) (fault : Option CarrierError)
    (error : StepError) → IsTrue (is_crossing asked) → IsTrue (is_each asked)
    → IsItemsFault fault error → HasCause number asked fault error
cause_of_items number asked fault step.Socket crossing each h = (crossing, h)
cause_of_items number asked fault (step.Refused why) crossing each h = tt
cause_of_items number asked fault step.Output crossing each h = absurd h
cause_of_items number asked fault step.Memory crossing each h =
    or_true_after (is_some number) (is_each asked) each

-- a fault of the items is a fault
pub items_is_fault : (fault : Option CarrierError) (error : StepError)
    → IsItemsFault fault error → IsFault error
items_is_fault fault step.Socket h = tt
items_is_fault fault (step.Refused why) h = absurd h
items_is_fault fault step.Output h = tt
items_is_fault fault step.Memory h = tt

-- the error of a run is that of one of its events
pub has_event_cause : {T : Type 0} (f : T → NumberedEvent) (tracing : Bool) (steps : List T)
    (fault : Option CarrierError) (k : ℕ) (step : T) (error : RunError) → k < length steps
    → step ≡ get_or steps k step → HasStepCause tracing (f step) fault error
    → HasEventCause tracing (map f steps) fault error
has_event_cause f tracing steps fault k step error below is cause = (
  k,
  f step,
  subst (λ n. k < n) (sym (length-map steps f)) below,
  get_or-map f steps k step (f step) below ∙ ap f (sym is),
  cause,
)

-- An error with the cause of an event tells the line of that event.
pub tells_line : (tracing : Bool) (steps : List NumberedEvent) (fault : Option CarrierError)
    (error : RunError) → HasEventCause tracing steps fault error
    → TellsLine steps fault (Err error)
tells_line tracing steps fault Output cause = tt
tells_line tracing steps fault (Socket line) (k, step, within, at, (is, crossing, faulty)) =
    ((k, step, within, at, (is, crossing)), faulty)
tells_line tracing steps fault Memory cause = tt
tells_line tracing steps fault (Refused line why) cause = tt
