-- The effect of a run of a script, and the text that it prints.
use Rattle.std.specs.Prelude.{⊤, ◌≡◌, ◌⊎◌, ℕ, Bool, List, [], ◌∷◌, ◌++◌, Option, Result, Ok, Err}
use Rattle.std.specs.Prelude.{OnOk, if◌then◌else◌}
use Rattle.std.specs.Io.KnownBytes.{Appends}
use Rattle.bsc_carrier.specs.Cable.{CableValue}
use Rattle.bsc_line_model.specs.declared.error.LineError.{LineError}
use Rattle.bsc_line_model.specs.declared.event.Event.{Event}
use Rattle.bsc_line_model.specs.Line.{LineValue}
use Rattle.bsc_line_model.specs.Kept.{IsLine}
use Rattle.bsc_config.specs.Actions.{NumberedEvent}
use Rattle.bsc_config.specs.Events.{Event as Asked}
use Rattle.bsc_run.specs.declared.error.RunError.{RunError}
use Rattle.bsc_run.specs.declared.error.RunError.TheVariants.{Refused}
use Rattle.bsc_run.specs.LineRuns.{RunsLine}
use Rattle.bsc_run.specs.Printed.{report_of}
use Rattle.bsc_run.specs.Speaking.{Fits}
use Rattle.bsc_run.specs.Crossing.{Streams}
use Rattle.bsc_run.specs.Steps.{OnCable, Acting, Accepts, Refuses, acts_on, pending_after}
use Rattle.bsc_run.specs.Changes.{event_lines}
use Rattle.bsc_run.specs.Traces.{if_traced, number_if}

-- The texts of a run: its output, and the lines of its trace.
pub record Texts : Type 0 where
  pub out : List ℕ
  pub trace : List ℕ

-- Nothing is printed, and the trace has no line.
abbrev pub no_text : Texts
no_text = record { out = []; trace = [] }

-- The texts with the report after the output.
abbrev pub with_report : Texts → LineValue → Texts
with_report text l = record { out = text.out ++ report_of l; trace = text.trace }

-- What the writers of the output and of the trace hold.
pub record Held : Type 0 where
  pub out : Option (List ℕ)
  pub trace : Option (List ℕ)

abbrev pub holding : Option (List ℕ) → Option (List ℕ) → Held
holding out trace = record { out = out; trace = trace }

-- The output was written, and the lines of the trace if there is one.
pub record Writes (tracing : Bool) (text : Texts) (old new : Held) : Type 0 where
  pub out : Appends old.out new.out text.out
  pub trace : Appends old.trace new.trace (if tracing then text.trace else [])

-- The event is the first that is refused: nothing crosses the cable and nothing is printed.
pub record Stops {S : Type 0} (step : NumberedEvent) (events : List Event) (old : OnCable S)
    (result : Result (Unit {0}) RunError) (new : OnCable S) (text : Texts) : Type 0 where
  pub why : LineError
  pub answer : result ≡ Err (Refused step.line why)
  pub refused : Refuses step.event why old.line new.line
  pub untouched : new.cable ≡ old.cable
  pub nothing : text ≡ no_text
  pub no_event : events ≡ []

-- A cable, and what the output and the trace hold.
pub record Outside (S : Type 0) : Type 0 where
  pub cable : CableValue S
  pub held : Held

-- A line, its cable, and what the output and the trace hold.
pub record Playing (S : Type 0) : Type 0 where
  pub line : LineValue
  pub outside : Outside S

abbrev pub playing : {S : Type 0} → LineValue → CableValue S → Option (List ℕ)
    → Option (List ℕ) → Playing S
playing line cable out trace =
    record { line = line; outside = record { cable = cable; held = holding out trace } }

-- The line and its cable, without the output and the trace.
abbrev pub on_cable : {S : Type 0} → Playing S → OnCable S
on_cable p = record { line = p.line; cable = p.outside.cable }

-- The line, its cable and its trace, without the output.
abbrev pub on_trace : {S : Type 0} → Playing S → Acting S
on_trace p =
    record { line = p.line; cable = p.outside.cable; trace = p.outside.held.trace }

module _ {S : Type 0} (streams : Streams S) where
  -- The event is accepted. The run of the remaining events continues with the line and the cable
  -- that it leaves, and writes the rest of the texts. `events` are the events of the line: the one
  -- that this one is, and then those of the rest.
  pub record GoesOn (step : NumberedEvent) (events : List Event) (old : OnCable S) (text : Texts)
      (Rest : List Event → OnCable S → Texts → Type 0) : Type 0 where
    pub mid : LineValue
    pub between : CableValue S
    pub rest : Texts
    pub later : List Event
    pub line : IsLine mid
    pub accepted : Accepts streams step.event old (record { line = mid; cable = between })
    pub printed : text.out ≡ pending_after step.event mid ++ rest.out
    pub traced : text.trace
        ≡ event_lines step.line step.event accepted.event old.line mid ++ rest.trace
    pub done : events ≡ accepted.event ∷ later
    pub goes : Rest later (record { line = mid; cable = between }) rest

  -- The events of a script are performed in order, up to the first that is refused, as these events
  -- of the line, and these texts are written.
  abbrev pub Plays : List NumberedEvent → List Event → OnCable S → Result (Unit {0}) RunError
      → OnCable S → Texts → Type 0
  Plays [] events old (Ok done) new text =
      (new.line ≡ old.line) × (new.cable ≡ old.cable) × (text ≡ no_text) × (events ≡ [])
  Plays [] events old (Err e) new text = ⊥
  Plays (step ∷ steps) events old result new text =
      Stops step events old result new text
      ⊎ GoesOn step events old text (λ later mid rest. Plays steps later mid result new rest)

  -- An event of a script is accepted, and its lines of the trace are written, if there is one.
  pub record Takes (number : Option ℕ) (asked : Asked) (old new : Acting S) : Type 0 where
    pub accepts : Accepts streams asked (acts_on old) (acts_on new)
    pub traced : Appends old.trace new.trace
        (if_traced number (λ n. event_lines n asked accepts.event old.line new.line))

  -- One event of a script is performed or refused, and the texts for it are written.
  pub record TakesStep (tracing : Bool) (step : NumberedEvent) (old : Playing S)
      (result : Result (Unit {0}) RunError) (new : Playing S) : Type 0 where
    pub accepted : OnOk result (Takes (number_if tracing step.line) step.event (on_trace old)
        (on_trace new))
    pub fits : OnOk result (Fits new.line new.outside.cable)
    pub printed : OnOk result (Appends old.outside.held.out new.outside.held.out
        (pending_after step.event new.line))
    pub refused : (line : ℕ) (why : LineError) → result ≡ Err (Refused line why)
        → (line ≡ step.line) × Refuses step.event why old.line new.line
        × (new.outside.cable ≡ old.outside.cable)
        × Appends old.outside.held.out new.outside.held.out []
        × Appends old.outside.held.trace new.outside.held.trace []

  -- The texts of a run of the events were written.
  pub record Played (tracing : Bool) (steps : List NumberedEvent) (old : Playing S)
      (result : Result (Unit {0}) RunError) (new : Playing S) : Type 0 where
    pub text : Texts
    pub events : List Event
    pub plays : Plays steps events (on_cable old) result (on_cable new) text
    pub written : Writes tracing text old.outside.held new.outside.held

  -- The texts of a run of the events were written, and then the report of the line after it. The
  -- line made the run of the events that the script says.
  pub record Runs (tracing : Bool) (steps : List NumberedEvent) (old : Playing S)
      (result : Result (Unit {0}) RunError) (new : Playing S) : Type 0 where
    pub text : Texts
    pub events : List Event
    pub plays : Plays steps events (on_cable old) result (on_cable new) text
    pub written : Writes tracing (with_report text new.line) old.outside.held new.outside.held
    pub line : RunsLine steps events old.line result new.line

-- P holds of a run that no fault interrupted: it reached the end of the script, or a refused event.
abbrev pub WhereWhole : Result (Unit {0}) RunError → Type 0 → Type 0
WhereWhole (Ok done) P = P
WhereWhole (Err (Refused line why)) P = P
WhereWhole (Err _) P = ⊤
