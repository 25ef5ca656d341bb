-- What a watch prints to its trace.
use Rattle.std.specs.Prelude.{◌≡◌, ℕ, nat_lt, Bool, true, false, List, [], ◌++◌, Option, None}
use Rattle.std.specs.Prelude.{Some}
use Rattle.std.specs.Io.KnownBytes.{Appends}
use Rattle.bsc_bid.specs.declared.speaker.Speaker.{Speaker}
use Rattle.bsc_bid.specs.declared.speaker.Speaker.TheVariants.{Control, Terminal}
use Rattle.bsc_connections.specs.Histories.{Happening}
use Rattle.bsc_control.specs.Control.{ControlValue}
use Rattle.bsc_control.specs.declared.task.Task.{Task}
use Rattle.bsc_control.specs.declared.task.Task.TheVariants.{Polling}
use Rattle.bsc_text.specs.Traces.{time_shown}
use Rattle.bsc_trust.specs.declared.distrust.Distrust.{Distrust}
use Rattle.bsc_monitor.specs.Answering.{unanswered}
use Rattle.bsc_report.specs.Holding.{CallLine, TracesNext, held_for, held_shown}
use Rattle.bsc_monitor.specs.Absences.{absence_told, absences_noted, at_time}
use Rattle.bsc_report.specs.Terminals.{news_line, told_answering}
use Rattle.bsc_report.specs.Traces.{IsTraced, ShowsChange, distrust_line}
use Rattle.bsc_monitor.specs.Trusting.{called_by, distrust_told, moved_in, trust_after, trusting_of}
use Rattle.bsc_monitor.specs.declared.absences.Absences.{Absences}
use Rattle.bsc_monitor.specs.declared.absences.Turn.{Turn}
use Rattle.bsc_monitor.specs.declared.answering.Answering.{Answering}
use Rattle.bsc_report.specs.declared.held.Calls.{Calls}
use Rattle.bsc_report.specs.declared.held.Calls.TheVariants as calls
use Rattle.bsc_report.specs.declared.terminal_news.TerminalNews.{TerminalNews}
use Rattle.bsc_report.specs.declared.terminal_news.TerminalsTold.{TerminalsTold}
use Rattle.bsc_report.specs.declared.tracing.Tracing.{Tracing}
use Rattle.bsc_report.specs.declared.tracing.Tracing.TheVariants.{Off, Exchanges, All}
use Rattle.bsc_monitor.specs.declared.trusting.Trusting.{Trusting}
use Rattle.bsc_monitor.specs.declared.watch.Watch.{Watch}

-- How much a trace tells, the line that is held back, and what its writer holds, as far as that is
-- known.
pub record Trace : Type 0 where
  pub tracing : Tracing
  pub held : Option CallLine
  pub contents : Option (List ℕ)

abbrev pub trace_of : {A T D : Type 0} → (D → Option (List ℕ)) → Watch A T D → Trace
trace_of contents w =
    record { tracing = w.tracing; held = w.held; contents = contents w.errors.now }

-- The line for an event of this station at this time is printed, if there is one: without a trace
-- only for a peer that joins, leaves or is refused, and for something that was withheld.
abbrev pub ShowsIn : Tracing → Calls → Speaker → ℕ → Happening → Trace → Trace → Type 0
ShowsIn Off calls me time happening old new =
    ShowsChange happening old.contents new.contents × (new.held ≡ old.held)
ShowsIn Exchanges calls me time happening old new =
    TracesNext old.held calls happening time me old.contents new.contents
    × (new.held ≡ held_for calls time happening)
ShowsIn All calls me time happening old new =
    IsTraced happening time me old.contents new.contents × (new.held ≡ old.held)

pub record ShowsEvent (calls : Calls) (me : Speaker) (time : ℕ) (happening : Happening)
    (old new : Trace) : Type 0 where
  pub tracing : new.tracing ≡ old.tracing
  pub line : ShowsIn old.tracing calls me time happening old new

-- The start of a line that tells of no event: in a trace the line that is held back, and the time.
abbrev pub start_of : Tracing → Option CallLine → ℕ → List ℕ
start_of Off held time = []
start_of Exchanges held time = held_shown held ++ time_shown time
start_of All held time = held_shown held ++ time_shown time

abbrev pub held_then : Tracing → Option CallLine → Option CallLine
held_then Off held = held
held_then Exchanges held = None
held_then All held = None

-- Such a start was written at some time.
pub record BeginsLine (old new : Trace) : Type 0 where
  pub time : ℕ
  pub text : Appends old.contents new.contents (start_of old.tracing old.held time)
  pub held : new.held ≡ held_then old.tracing old.held
  pub tracing : new.tracing ≡ old.tracing

-- This line was written after such a start.
pub record ShowsLine (line : List ℕ) (old new : Trace) : Type 0 where
  pub between : Trace
  pub begins : BeginsLine old between
  pub text : Appends between.contents new.contents line
  pub held : new.held ≡ between.held
  pub tracing : new.tracing ≡ between.tracing

-- It is told why the line is not trusted, if there is a reason to tell.
abbrev pub ShowsDistrust : Option Distrust → Trace → Trace → Type 0
ShowsDistrust None old new = new ≡ old
ShowsDistrust (Some why) old new = ShowsLine (distrust_line why) old new

-- This is told of a terminal, if there is something to tell.
abbrev pub ShowsNews : Option TerminalNews → Trace → Trace → Type 0
ShowsNews None old new = new ≡ old
ShowsNews (Some news) old new = ShowsLine (news_line news) old new

-- All of this is told of terminals, in this order.
pub record ShowsTerminals (all : TerminalsTold) (old new : Trace) : Type 0 where
  pub first : Trace
  pub moved : ShowsNews all.moved old first
  pub second : Trace
  pub silent : ShowsNews all.silent first second
  pub visited : ShowsNews all.visited second new

-- Which calls may begin an idle poll of a control station in this task: while it polls, those that
-- it sends.
abbrev pub calls_in : Task → Calls
calls_in (Polling replied) = calls.Sent
calls_in _ = calls.Neither

-- What an event is to the terminals, by what is known before it and the control station after it.
abbrev pub turn_of : Trusting → ControlValue → Option ℕ → Turn
turn_of old control ended =
    record { called = old.called; ended = ended; repeated = nat_lt 0 control.failures }

-- What is told of terminals with an event at a control station: the one that is known now to answer
-- on a connection, or has left; the one that has not answered; and what the visit that has ended
-- shows.
abbrev pub terminals_told : Answering → Turn → Absences → Trusting → Trusting → ControlValue
    → Happening → TerminalsTold
terminals_told answering turn absences old new control happening =
    record {
      moved = moved_in old.trust new.trust happening;
      silent = told_answering (unanswered answering control happening);
      visited = absence_told absences turn happening;
    }

-- What happened to a control station is shown with the time, and kept with the same time: the line
-- for it, then why the line is not trusted if that is told of it, then what is told of terminals.
-- The visit to a terminal has ended with it, or none has.
pub record ControlShows (control : ControlValue) (happening : Happening) (ended : Option ℕ)
    (answering : Answering) (absent absent_after : Absences) (old new : Trusting)
    (before after : Trace) : Type 0 where
  pub time : ℕ
  pub trust : new
      ≡ trusting_of (trust_after old.trust old.called happening time) (called_by control)
  pub absences : absent_after
      ≡ absences_noted absent (turn_of old control ended) happening time
      (moved_in old.trust new.trust happening) (called_by control)
  pub first : Trace
  pub event : ShowsEvent (calls_in control.task) Control time happening before first
  pub second : Trace
  pub distrust : ShowsDistrust (distrust_told old.trust old.called happening time) first second
  pub terminals : ShowsTerminals
      (terminals_told answering (turn_of old control ended) (at_time absent time) old new control
      happening) second after

-- The same of a control station that has ended, which calls nobody else.
pub record LastShows (happening : Happening) (old new : Trusting) (before after : Trace)
    : Type 0 where
  pub time : ℕ
  pub trust : new ≡ trusting_of (trust_after old.trust old.called happening time) old.called
  pub first : Trace
  pub event : ShowsEvent calls.Neither Control time happening before first
  pub distrust : ShowsDistrust (distrust_told old.trust old.called happening time) first after

-- What happened to the terminal with this number is shown with the time.
pub record TerminalShows (number : ℕ) (happening : Happening) (before after : Trace)
    : Type 0 where
  pub time : ℕ
  pub event : ShowsEvent calls.Heard (Terminal number) time happening before after
