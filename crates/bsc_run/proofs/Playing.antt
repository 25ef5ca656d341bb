-- A run of the events of a script up to some event.
use Rattle.std.proofs.Common.{◌≡◌, ◌<◌, ◌≤◌, ℕ, zero, suc, ◌+◌, List, [], ◌∷◌, ◌++◌, length, map}
use Rattle.std.proofs.Common.{drop, get_or, inl, inr, Option, Result, Ok, Err, refl, sym, ap}
use Rattle.std.proofs.Common.{arith, append_assoc, append-nil, add-one, Bool, true, false}
use Rattle.std.proofs.Common.{if◌then◌else◌}
use Rattle.std.specs.Prelude.{IfErr}
use Rattle.std.specs.Io.KnownBytes.{Appends}
use Rattle.std.proofs.KnownBytes.{Appends-nil, Appends-trans}
use Rattle.bsc_line_model.specs.declared.event.Event.{Event}
use Rattle.bsc_line_model.specs.Kept.{IsLine}
use Rattle.bsc_config.specs.Actions.{NumberedEvent}
use Rattle.bsc_run.specs.Crossing.{Streams}
use Rattle.bsc_run.specs.declared.error.RunError.{RunError}
use Rattle.bsc_run.specs.declared.error.RunError.TheVariants.{Refused}
use Rattle.bsc_run.specs.Printed.{report_of}
use Rattle.bsc_run.specs.Plays.{Playing, playing, on_cable, on_trace, Plays, Played, Runs}
use Rattle.bsc_run.specs.Plays.{Takes, TakesStep, Texts, WhereWhole, Writes, no_text}
use Rattle.bsc_run.specs.Steps.{OnCable, pending_after}
use Rattle.bsc_run.specs.Changes.{event_lines}
use Rattle.bsc_run.specs.Traces.{if_traced, number_if}
use Rattle.bsc_run.proofs.LineRuns.{LineLaws, runs_line}

drop_map_suc : {X Y : Type 0} (f : X → Y) (xs : List X) (i : ℕ) (x : X) → i < length xs → x
    ≡ get_or xs i x → drop i (map f xs) ≡ f x ∷ drop (suc i) (map f xs)
drop_map_suc f [] i x h e = absurd (omega arith)
drop_map_suc f (y ∷ ys) zero x h e = ap (λ z. f z ∷ map f ys) (sym e)
drop_map_suc f (y ∷ ys) (suc i) x h e = drop_map_suc f ys i x (omega arith) e

-- the first remaining element
pub drop_map : {X Y : Type 0} (f : X → Y) (xs : List X) (i : ℕ) (x : X) → i < length xs → x
    ≡ get_or xs i x → drop i (map f xs) ≡ f x ∷ drop (i + 1) (map f xs)
drop_map f xs i x h e = rw add-one (drop_map_suc f xs i x h e)

-- no element remains
pub drop_map_all : {X Y : Type 0} (f : X → Y) (xs : List X) (i : ℕ) → length xs ≤ i
    → drop i (map f xs) ≡ []
drop_map_all f [] zero h = refl
drop_map_all f [] (suc i) h = refl
drop_map_all f (x ∷ xs) zero h = absurd (omega arith)
drop_map_all f (x ∷ xs) (suc i) h = drop_map_all f xs i (omega arith)

-- the texts of two parts of a run
abbrev pub both : Texts → Texts → Texts
both a b = record { out = a.out ++ b.out; trace = a.trace ++ b.trace }

-- the lines of the trace for one more event
traced_more : (tracing : Bool) (n : ℕ) (lines : ℕ → List ℕ) (a b c : Option (List ℕ))
    (before : List ℕ) → Appends a b (if tracing then before else [])
    → Appends b c (if_traced (number_if tracing n) lines)
    → Appends a c (if tracing then before ++ lines n else [])
traced_more true n lines a b c before p q = Appends-trans a b c before (lines n) p q
traced_more false n lines a b c before p q = Appends-trans a b c [] [] p q

-- no line of the trace
traced_none : (tracing : Bool) (a : Option (List ℕ)) → Appends a a (if tracing then [] else [])
traced_none true a = Appends-nil a
traced_none false a = Appends-nil a

-- an event that is refused has no line of the trace
traced_on : (tracing : Bool) (a b c : Option (List ℕ)) (before : List ℕ)
    → Appends a b (if tracing then before else []) → Appends b c []
    → Appends a c (if tracing then before ++ [] else [])
traced_on true a b c before p q = Appends-trans a b c before [] p q
traced_on false a b c before p q = Appends-trans a b c [] [] p q

module _ {S : Type 0} (streams : Streams S) (tracing : Bool) (all : List NumberedEvent)
    (first : Playing S) where
  -- the texts written and the events of the line so far, with the fact that a run of the remaining
  -- events makes a run of all
  pub record HasPlayed (left : List NumberedEvent) (now : Playing S) : Type 0 where
    pub text : Texts
    pub events : List Event
    pub written : Writes tracing text first.outside.held now.outside.held
    pub goes : (result : Result (Unit {0}) RunError) (new : OnCable S) (rest : Texts)
        (later : List Event) → Plays streams left later (on_cable now) result new rest
        → Plays streams all (events ++ later) (on_cable first) result new (both text rest)

  -- an event is accepted
  pub has_played_more : (step : NumberedEvent) (left : List NumberedEvent) (mid new : Playing S)
      → HasPlayed (step ∷ left) mid → IsLine new.line
      → Takes streams (number_if tracing step.line) step.event (on_trace mid) (on_trace new)
      → Appends mid.outside.held.out new.outside.held.out (pending_after step.event new.line)
      → HasPlayed left new
  has_played_more step left mid new h line taken written =
      let accepted = taken.accepts in
      let out = pending_after step.event new.line in
      let lines : ℕ → List ℕ = λ n.
      event_lines n step.event accepted.event mid.line new.line in
      record {
        text = record { out = h.text.out ++ out; trace = h.text.trace ++ lines step.line };
        events = h.events ++ accepted.event ∷ [];
        written = record {
          out = Appends-trans first.outside.held.out mid.outside.held.out
              new.outside.held.out h.text.out out h.written.out written;
          trace = traced_more tracing step.line lines first.outside.held.trace
              mid.outside.held.trace new.outside.held.trace h.text.trace h.written.trace
              taken.traced;
        };
        goes = λ result last rest later p.
            rw (
              append_assoc h.text.out out rest.out,
              append_assoc h.text.trace (lines step.line) rest.trace,
              append_assoc h.events (accepted.event ∷ []) later,
            )
            (h.goes result last (both (record { out = out; trace = lines step.line }) rest)
            (accepted.event ∷ later)
            (inr record {
              mid = new.line;
              between = new.outside.cable;
              rest = rest;
              later = later;
              line = line;
              accepted = accepted;
              printed = refl;
              traced = refl;
              done = refl;
              goes = p;
            }));
      }

  -- no event remains
  pub has_played_all : (now : Playing S) → HasPlayed [] now
      → Played streams tracing all first (Ok tt) now
  has_played_all now h = record {
    text = both h.text no_text;
    events = h.events ++ [];
    plays = h.goes (Ok tt) (on_cable now) no_text [] (refl, refl, refl, refl);
    written = rw (append-nil h.text.out, append-nil h.text.trace) h.written;
  }

  -- the next event is refused, or a fault interrupts it
  pub has_played_stop : (step : NumberedEvent) (left : List NumberedEvent) (mid new : Playing S)
      (error : RunError) → HasPlayed (step ∷ left) mid
      → TakesStep streams tracing step mid (Err error) new
      → WhereWhole (Err error) (Played streams tracing all first (Err error) new)
  has_played_stop step left mid new (Refused line why) h t =
      let r = t.refused line why refl in
      record {
        text = both h.text no_text;
        events = h.events ++ [];
        plays = h.goes (Err (Refused line why)) (on_cable new) no_text [] (inl record {
          why = why;
          answer = ap (λ n. Err (Refused n why)) r.0;
          refused = r.1;
          untouched = r.2;
          nothing = refl;
          no_event = refl;
        });
        written = record {
          out = Appends-trans first.outside.held.out mid.outside.held.out
              new.outside.held.out h.text.out [] h.written.out r.3;
          trace = traced_on tracing first.outside.held.trace mid.outside.held.trace
              new.outside.held.trace h.text.trace h.written.trace r.4;
        };
      }
  has_played_stop step left mid new _ h t = tt

  -- no event has been performed
  pub has_played_none : HasPlayed all first
  has_played_none = record {
    text = no_text;
    events = [];
    written = record {
      out = Appends-nil first.outside.held.out;
      trace = traced_none tracing first.outside.held.trace;
    };
    goes = λ result new rest later p. p;
  }

-- the report is written after the run, which is a run of the line
pub runs_reported : {S : Type 0} (laws : LineLaws) (streams : Streams S) (tracing : Bool)
    (steps : List NumberedEvent) (old : Playing S) (result : Result (Unit {0}) RunError)
    (new : Playing S) (holds : Option (List ℕ)) → IsLine old.line
    → Played streams tracing steps old result new
    → Appends new.outside.held.out holds (report_of new.line)
    → Runs streams tracing steps old result
    (playing new.line new.outside.cable holds new.outside.held.trace)
runs_reported laws streams tracing steps old result new holds line p written = record {
  text = p.text;
  events = p.events;
  plays = p.plays;
  written = record {
    out = Appends-trans old.outside.held.out new.outside.held.out holds p.text.out
        (report_of new.line) p.written.out written;
    trace = p.written.trace;
  };
  line = runs_line laws streams steps p.events old new result p.text line p.plays;
}

-- a property of a run that an error ended
pub where_ended : {P Q : RunError → Type 0} (r : Result (Unit {0}) RunError)
    → ((error : RunError) → P error → Q error) → IfErr r P → IfErr r Q
where_ended (Ok done) f p = tt
where_ended (Err error) f p = f error p

-- a property of a run that no fault interrupted
pub where_whole : {P Q : Type 0} (r : Result (Unit {0}) RunError) → (P → Q) → WhereWhole r P
    → WhereWhole r Q
where_whole (Ok done) f p = f p
where_whole (Err (Refused line why)) f p = f p
where_whole (Err _) f p = p
