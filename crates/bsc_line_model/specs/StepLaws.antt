-- What every event of a line keeps.
use Rattle.std.specs.Prelude.{◌≡◌, ◌⊎◌, ◌<◌, ◌++◌, ◌&&◌, ℕ, List, [], ◌∷◌, IsTrue, is_some, nat_eq}
use Rattle.std.specs.Prelude.{Result, Ok, Err, OnOk, IfErr, if◌then◌else◌}
use Rattle.bsc_frame.specs.declared.message.Message.{Message}
use Rattle.bsc_frame.specs.declared.message.Heard.{Heard}
use Rattle.bsc_bid.specs.Channel.{Channel}
use Rattle.bsc_bid.specs.Fair.{IsFairlyHeard}
use Rattle.bsc_bid.specs.Setup.{SetupValue}
use Rattle.bsc_bid.specs.Terminal.{TerminalValue}
use Rattle.bsc_tributary.specs.Tributary.{holds}
use Rattle.bsc_control.specs.declared.task.Replied.{Replied}
use Rattle.bsc_control.specs.declared.task.Task.TheVariants.{AtRest, Polling}
use Rattle.bsc_bid.specs.declared.way.Way.{Way}
use Rattle.bsc_bid.specs.declared.way.Way.TheVariants.{FromTerminal, ToTerminal}
use Rattle.bsc_control.specs.Control.{current}
use Rattle.bsc_line_model.specs.declared.error.LineError.{LineError}
use Rattle.bsc_line_model.specs.declared.error.LineError.TheVariants.{CountMismatch}
use Rattle.bsc_line_model.specs.declared.event.Event.{Event}
use Rattle.bsc_line_model.specs.declared.event.Event.TheVariants.{OfferAt, OfferFor, Carry}
use Rattle.bsc_line_model.specs.declared.event.Event.TheVariants.{CarryEach, CarrySent, Silence}
use Rattle.bsc_line_model.specs.declared.event.Event.TheVariants.{Ready, UrgentAt, UrgentFor}
use Rattle.bsc_line_model.specs.declared.event.Event.TheVariants.{Polled, Release, Restart}
use Rattle.bsc_line_model.specs.Line.{LineValue, terminal_at, terminal_count, IsChannel, channel_of}
use Rattle.bsc_line_model.specs.Hearing.{all_hear}
use Rattle.bsc_line_model.specs.Terminals.{answer_of}
use Rattle.bsc_line_model.specs.Trust.{IsHeardFairly}
use Rattle.bsc_line_model.specs.Carries.{IsCarriedDown}
use Rattle.bsc_line_model.specs.Runs.{Does}
use Rattle.bsc_line_model.specs.Kept.{IsLine, IsNewLine}
use Rattle.bsc_line_model.specs.ChannelSteps.{StepsChannels}

-- each accepted event moves the channels as its row says, if the line is trusted after it
abbrev pub EachStepsChannels : Type 0
EachStepsChannels =
    (event : Event) (old new : LineValue) → IsLine old → Does event old (Ok tt) new
    → IsTrue new.trusted → StepsChannels event old new

-- the records that were offered on channel (t, way)
abbrev pub offered_on : LineValue → ℕ → Way → List (List ℕ)
offered_on l t way = (channel_of l t way).offered

-- the record that an event offers to channel (t, way), if it offers one to it
abbrev pub offered_by : Event → ℕ → Way → List (List ℕ)
offered_by (OfferAt u r) t FromTerminal = if nat_eq t u then r.now ∷ [] else []
offered_by (OfferAt u r) t (ToTerminal s) = []
offered_by (OfferFor u k r) t FromTerminal = []
offered_by (OfferFor u k r) t (ToTerminal s) = if nat_eq t u && nat_eq s k then r.now ∷ [] else []
offered_by (Carry item) t way = []
offered_by (CarryEach items) t way = []
offered_by CarrySent t way = []
offered_by Silence t way = []
offered_by (Ready u ready) t way = []
offered_by (UrgentAt u) t way = []
offered_by (UrgentFor u) t way = []
offered_by (Polled u polled) t way = []
offered_by (Release u mine) t way = []
offered_by (Restart party) t way = []

-- the records that are offered on a channel grow by the accepted offers of it, trusted or not, and
-- by nothing else
abbrev pub GrowsByOffers : Type 0
GrowsByOffers =
    (event : Event) (old new : LineValue) → IsLine old → Does event old (Ok tt) new
    → (t : ℕ) (way : Way) → IsChannel old t way
    → offered_on new t way ≡ offered_on old t way ++ offered_by event t way

-- a refused event changes nothing
abbrev pub RefusedChangesNothing : Type 0
RefusedChangesNothing =
    (event : Event) (old new : LineValue) (why : LineError) → Does event old (Err why) new
    → new ≡ old

-- a line that is trusted after an event was trusted before it
abbrev pub TrustOnlyFalls : Type 0
TrustOnlyFalls =
    (event : Event) (old new : LineValue) → Does event old (Ok tt) new → IsTrue new.trusted
    → IsTrue old.trusted

-- What an event does to the channels. If it is accepted, the record of an offer is added to those
-- that were offered on its channel, and nothing else is offered; and if the line is trusted after
-- it, the channels move as its row says. If it is refused, nothing changes. Trust that is lost
-- never comes back.
pub record StepsAs (event : Event) (old : LineValue) (result : Result (Unit {0}) LineError)
    (new : LineValue) : Type 0 where
  pub offered : OnOk result ((t : ℕ) (way : Way) → IsChannel old t way
      → offered_on new t way ≡ offered_on old t way ++ offered_by event t way)
  pub moves : OnOk result (IsTrue new.trusted → StepsChannels event old new)
  pub trust : IsTrue new.trusted → IsTrue old.trusted
  pub refused : IfErr result (λ why. new ≡ old)

-- each event that this line does steps so
abbrev pub StepsFrom : LineValue → Type 0
StepsFrom l =
    (event : Event) (new : LineValue) (result : Result (Unit {0}) LineError)
    → Does event l result new → StepsAs event l result new

-- each event of every line does
abbrev pub EachEventSteps : Type 0
EachEventSteps = (l : LineValue) → IsLine l → StepsFrom l

-- the control station polls terminal t
pub record IsPolled (l : LineValue) (t : ℕ) : Type 0 where
  pub present : t ≡ current l.control
  pub replied : Replied
  pub task : l.control.task ≡ Polling replied

-- a terminal of a trusted line holds the line only while the control station polls it, or while the
-- control station is at rest since it began again
abbrev pub HoldsWhilePolled : Type 0
HoldsWhilePolled =
    (l : LineValue) (t : ℕ) → IsLine l → IsTrue l.trusted → t < terminal_count l
    → IsTrue (holds (terminal_at l t).mode) → IsPolled l t ⊎ (l.control.task ≡ AtRest)

-- on a trusted line, no release is refused with CountMismatch
abbrev pub NeverMismatches : Type 0
NeverMismatches =
    (old new : LineValue) (t : ℕ) (way : Way) → IsLine old → IsTrue old.trusted
    → ¬ Does (Release t way) old (Err CountMismatch) new

-- terminal t answers what the terminals hear
abbrev pub Answers : (ℕ → Heard) → LineValue → LineValue → ℕ → Type 0
Answers hears old new t = IsTrue (is_some (answer_of old.terminals hears new.terminals t))

-- at most one terminal answers a transmission of the control station, if the line is trusted after
-- it
abbrev pub OneAnswers : Type 0
OneAnswers =
    (message : Message) (hears : ℕ → Heard) (old new : LineValue) → IsLine old
    → IsCarriedDown message hears old new → IsTrue new.trusted → (t u : ℕ)
    → t < terminal_count old → u < terminal_count old
    → Answers hears old new t → Answers hears old new u → t ≡ u

-- what one station would hear fairly, n terminals that all hear it hear fairly
abbrev pub AlikeIsFair : Type 0
AlikeIsFair =
    (message : Message) (n : ℕ) (heard : Heard) → IsFairlyHeard message heard
    → IsHeardFairly message n (all_hear heard)

-- and conversely, if there is at least one terminal
abbrev pub FairIsAlike : Type 0
FairIsAlike =
    (message : Message) (n : ℕ) (heard : Heard) → 0 < n
    → IsHeardFairly message n (all_hear heard) → IsFairlyHeard message heard

-- a channel on which no record is offered, known or spooled
abbrev pub no_records : Channel
no_records = record { offered = []; known = 0; spooled = [] }

-- no record is offered, known or spooled on the channels of a new line
abbrev pub NewChannelsAreEmpty : Type 0
NewChannelsAreEmpty =
    (setup : SetupValue) (given : List TerminalValue) (poll_list : List ℕ) (l : LineValue) (t : ℕ)
    (way : Way) → IsLine l → IsNewLine setup given poll_list l → IsChannel l t way
    → channel_of l t way ≡ no_records
