-- The main promise of a line that is still trusted, whatever its events were and whichever stations
-- began again: the records that arrived on a channel are the first of those that were offered on
-- it, in order and each once; the sending end counts none as delivered that did not arrive; and no
-- record reaches a terminal that is not addressed.
use Rattle.std.specs.Prelude.{◌≡◌, ◌⊎◌, ◌≤◌, ◌++◌, ℕ, suc, IsTrue, List, [], ◌∷◌, length}
use Rattle.std.specs.Prelude.{take, slice_get, Some, Result, Ok, Err}
use Rattle.bsc_bid.specs.declared.phase.Phase.{Phase}
use Rattle.bsc_bid.specs.declared.phase.Phase.TheVariants.{Idle, Unanswered, Held, InDoubt}
use Rattle.bsc_bid.specs.declared.way.Way.{Way}
use Rattle.bsc_line_model.specs.declared.error.Stopped.{Stopped}
use Rattle.bsc_line_model.specs.declared.event.Event.{Event}
use Rattle.bsc_line_model.specs.Line.{LineValue, IsChannel, channel_of, phase_of}
use Rattle.bsc_line_model.specs.Runs.{Does, Runs}
use Rattle.bsc_line_model.specs.Kept.{IsLine}
use Rattle.bsc_line_model.specs.ChannelSteps.{StepsChannels}
use Rattle.bsc_line_model.specs.StepLaws.{offered_on, offered_by}

-- the events of a run that were accepted: all of them, or those before the one that was refused
abbrev pub accepted_in : List Event → Result (Unit {0}) Stopped → List Event
accepted_in events (Ok done) = events
accepted_in events (Err stopped) = take stopped.at events

-- the records that these events offer on channel (t, way), in order
abbrev pub offered_in : List Event → ℕ → Way → List (List ℕ)
offered_in [] t way = []
offered_in (e ∷ es) t way = offered_by e t way ++ offered_in es t way

-- the records that arrived on channel (t, way), and how many its sending end counts as delivered
abbrev pub spooled_on : LineValue → ℕ → Way → List (List ℕ)
spooled_on l t way = (channel_of l t way).spooled

abbrev pub known_on : LineValue → ℕ → Way → ℕ
known_on l t way = (channel_of l t way).known

-- the sending end has no block unanswered and none in doubt
abbrev pub IsSettled : Phase → Type 0
IsSettled Idle = Unit {0}
IsSettled (Held end alternation) = Unit {0}
IsSettled (Unanswered block) = ⊥
IsSettled (InDoubt count) = ⊥

-- What a run leaves on a channel. The offered records are those that were offered before it, and
-- then those of its accepted offers, in order. The records that arrived are the first of these, in
-- order and each once. Those that the sending end counts as delivered are among them, and are all
-- of them if no block is unanswered or in doubt.
pub record ArrivesInOrder (old new : LineValue) (accepted : List Event) (t : ℕ) (way : Way)
    : Type 0 where
  pub offered : offered_on new t way ≡ offered_on old t way ++ offered_in accepted t way
  pub arrived : spooled_on new t way ≡ take (length (spooled_on new t way)) (offered_on new t way)
  pub known : known_on new t way ≤ length (spooled_on new t way)
  pub all_known : IsSettled (phase_of new t way)
      → known_on new t way ≡ length (spooled_on new t way)

-- either the records that arrived on a channel are unchanged, or the channel is the addressed one,
-- that is, the one that the last whole call named
abbrev pub ReachesAddressed : LineValue → LineValue → Type 0
ReachesAddressed before after =
    (t : ℕ) (way : Way) → IsChannel before t way
    → (spooled_on after t way ≡ spooled_on before t way) ⊎ (before.addressed ≡ Some (t, way))

-- An event leads from one line to the next. It is accepted, and both lines are trusted; the
-- channels make the moves of its row and no others, so that records reach the addressed channel
-- only.
pub record PassesEvent (event : Event) (before after : LineValue) : Type 0 where
  pub line : IsLine before
  pub accepted : Does event before (Ok tt) after
  pub trusted_before : IsTrue before.trusted
  pub trusted_after : IsTrue after.trusted
  pub moves : StepsChannels event before after
  pub reaches : ReachesAddressed before after

-- The history of a run, as one line for each place. The first is the old line; each accepted event
-- leads from the line at its place to the next; and the last, after all of them, is the new line.
pub record History (old : LineValue) (accepted : List Event) (new : LineValue) : Type 0 where
  pub line_at : ℕ → LineValue
  pub first : line_at 0 ≡ old
  pub steps : (i : ℕ) (event : Event) → slice_get accepted i ≡ Some event
      → PassesEvent event (line_at i) (line_at (suc i))
  pub last : line_at (length accepted) ≡ new

-- what a run keeps: it began with a trusted line, on each channel the records arrive in order, and
-- each accepted event makes the moves of its row and no others
pub record KeepsRecords (old : LineValue) (events : List Event) (result : Result (Unit {0}) Stopped)
    (new : LineValue) : Type 0 where
  pub trusted : IsTrue old.trusted
  pub channels : (t : ℕ) (way : Way) → IsChannel old t way
      → ArrivesInOrder old new (accepted_in events result) t way
  pub history : History old (accepted_in events result) new

-- every run that leaves the line trusted keeps the records
abbrev pub RunsKeepRecords : Type 0
RunsKeepRecords =
    (old new : LineValue) (events : List Event) (result : Result (Unit {0}) Stopped) → IsLine old
    → Runs old events result new → IsTrue new.trusted → KeepsRecords old events result new
