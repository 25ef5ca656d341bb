-- What a run of a script does to its line: it is a run of the line, of which the main promise and
-- the delivery within a visit and a round hold.
use Rattle.std.specs.Prelude.{◌≡◌, ◌≤◌, ◌&&◌, ℕ, IsTrue, nat_eq, if◌then◌else◌, List, [], ◌∷◌, ◌++◌}
use Rattle.std.specs.Prelude.{length, map, take, drop, replicate, All, Result, Ok, OnOk}
use Rattle.bsc_bid.specs.declared.way.Way.{Way}
use Rattle.bsc_bid.specs.declared.way.Way.TheVariants.{FromTerminal, ToTerminal}
use Rattle.bsc_line_model.specs.declared.event.Event.{Event}
use Rattle.bsc_line_model.specs.declared.event.Event.TheVariants.{CarrySent}
use Rattle.bsc_line_model.specs.Line.{LineValue, IsChannel}
use Rattle.bsc_line_model.specs.Runs.{Runs}
use Rattle.bsc_line_model.specs.Headline.{KeepsRecords, spooled_on}
use Rattle.bsc_line_model.specs.EveryRun.{KeepsLine}
use Rattle.bsc_line_model.specs.StepLaws.{offered_on}
use Rattle.bsc_line_model.specs.Rounds.{BeginsVisit, IsVisited, IsRoundDone, SameDelays, entry_at}
use Rattle.bsc_line_model.specs.Rounds.{visit_length, round_length, first_visit}
use Rattle.bsc_config.specs.Actions.{NumberedEvent}
use Rattle.bsc_config.specs.Events.{Event as Asked, offer_at, offer_for, carry, lose, heard}
use Rattle.bsc_config.specs.Events.{heard_each, silence, ready, polled, urgent_at, urgent_for}
use Rattle.bsc_config.specs.Events.{release}
use Rattle.bsc_run.specs.declared.error.RunError.{RunError}

-- The record that an event of a script offers to channel (t, way), if it offers one to it.
abbrev pub asked_for : Asked → ℕ → Way → List (List ℕ)
asked_for (offer_at u codes) t FromTerminal = if nat_eq t u then codes ∷ [] else []
asked_for (offer_at u codes) t (ToTerminal s) = []
asked_for (offer_for u k codes) t FromTerminal = []
asked_for (offer_for u k codes) t (ToTerminal s) =
    if nat_eq t u && nat_eq s k then codes ∷ [] else []
asked_for carry t way = []
asked_for lose t way = []
asked_for (heard given) t way = []
asked_for (heard_each items) t way = []
asked_for silence t way = []
asked_for (ready u takes) t way = []
asked_for (polled u on) t way = []
asked_for (urgent_at u) t way = []
asked_for (urgent_for u) t way = []
asked_for (release u mine) t way = []

-- The records that these events of a script offer on channel (t, way), in order.
abbrev pub script_offers : List NumberedEvent → ℕ → Way → List (List ℕ)
script_offers [] t way = []
script_offers (step ∷ steps) t way = asked_for step.event t way ++ script_offers steps t way

-- What arrived on a channel of a trusted line is the front of what was offered on it before, and
-- then by the accepted events of the script, in order and each record once.
pub record ArrivesAsAsked (steps : List NumberedEvent) (old new : LineValue) (t : ℕ) (way : Way)
    : Type 0 where
  pub offered : offered_on new t way ≡ offered_on old t way ++ script_offers steps t way
  pub arrived : IsTrue new.trusted
      → spooled_on new t way ≡ take (length (spooled_on new t way)) (offered_on new t way)

-- The script is this many transmissions, each of which was heard as it was sent, and no spool was
-- refused room.
pub record AreHeard (count : ℕ) (steps : List NumberedEvent) (events : List Event)
    (old new : LineValue) : Type 0 where
  pub steps_are : map (λ (step : NumberedEvent). step.event) steps ≡ replicate count carry
  pub as_sent : All (λ (e : Event). e ≡ CarrySent) events
  pub delays : SameDelays old new

-- A script of the transmissions of a visit from its beginning is accepted, and the visit is done.
abbrev pub PlaysVisit : List NumberedEvent → List Event → LineValue → Result (Unit {0}) RunError
    → LineValue → Type 0
PlaysVisit steps events old result new =
    (place : ℕ) → BeginsVisit old place
    → AreHeard (visit_length old (entry_at old place)) steps events old new
    → (result ≡ Ok tt) × IsVisited old new place

-- A script of the transmissions of a round from its beginning is accepted, and the round is done.
abbrev pub PlaysRound : List NumberedEvent → List Event → LineValue → Result (Unit {0}) RunError
    → LineValue → Type 0
PlaysRound steps events old result new =
    BeginsVisit old (first_visit old) → AreHeard (round_length old) steps events old new
    → (result ≡ Ok tt) × IsRoundDone old new

-- A script that was played, from the step at place i on. The line at that place is one to which the
-- events before it lead, and from which the others lead to the new line. If the rest of the script
-- is the transmissions of a visit or of a round that begins there, it is delivered.
pub record PlaysFrom (i : ℕ) (steps : List NumberedEvent) (events : List Event) (old : LineValue)
    (result : Result (Unit {0}) RunError) (new : LineValue) : Type 0 where
  pub here : LineValue
  pub before : Runs old (take i events) (Ok tt) here
  pub after : Runs here (drop i events) (Ok tt) new
  pub visit : PlaysVisit (drop i steps) (drop i events) here result new
  pub round : PlaysRound (drop i steps) (drop i events) here result new

-- The line made a run of these events, which are those of the script that were accepted. What every
-- run of a line promises holds of it.
pub record RunsLine (steps : List NumberedEvent) (events : List Event) (old : LineValue)
    (result : Result (Unit {0}) RunError) (new : LineValue) : Type 0 where
  pub runs : Runs old events (Ok tt) new
  pub all : OnOk result (length events ≡ length steps)
  pub keeps : KeepsLine old events (Ok tt) new
  pub headline : IsTrue new.trusted → KeepsRecords old events (Ok tt) new
  pub arrives : (t : ℕ) (way : Way) → IsChannel old t way
      → ArrivesAsAsked (take (length events) steps) old new t way
  pub parts : (i : ℕ) → i ≤ length events → PlaysFrom i steps events old result new
