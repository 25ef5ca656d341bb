-- The events of a line, as a program in C calls for them.
use Rattle.std.specs.Prelude.{◌≡◌, ℕ, Bool, List, None, Some, Result, Ok, Err}
use Rattle.std.specs.Borrow.{Bor}
use Rattle.bsc_bid.specs.declared.way.Way.TheVariants.{FromTerminal, ToTerminal}
use Rattle.bsc_line_model.specs.declared.error.LineError.{LineError}
use Rattle.bsc_line_model.specs.declared.event.Event.{Event}
use Rattle.bsc_line_model.specs.declared.event.Event.TheVariants as event
use Rattle.bsc_bid.specs.declared.speaker.Speaker.TheVariants.{Control, Terminal}
use Rattle.bsc_line_model.specs.Line.{LineValue}
use Rattle.bsc_line_model.specs.Runs.{Does}
use Rattle.bsc_line_model.specs.StepLaws.{StepsAs}
use Rattle.bsc_embed.specs.declared.interface.fault.Fault.{Fault}
use Rattle.bsc_embed.specs.FromFaults.{line_fault}

-- The answer of the line to an event, with its refusal as a fault.
abbrev pub as_told : Result (Unit {0}) LineError → Result (Unit {0}) Fault
as_told (Ok done) = Ok done
as_told (Err e) = Err (line_fault e)

-- One event: the line does it or refuses it, as the row of the event says, and its answer is told.
-- A refused event changes nothing; an accepted one moves the channels as its row says (own).
pub record AsEvent (event : Event) (old new : LineValue) (answer : Result (Unit {0}) Fault)
    : Type 0 where
  pub result : Result (Unit {0}) LineError
  pub does : Does event old result new
  pub steps : StepsAs event old result new
  pub told : answer ≡ as_told result

-- One event of octets that the program has: the event of a slice that lends them.
pub record AsEventOf (event : Bor (List ℕ) → Event) (octets : List ℕ) (old new : LineValue)
    (answer : Result (Unit {0}) Fault) : Type 0 where
  pub slice : Bor (List ℕ)
  pub lends : slice.now ≡ octets
  pub done : AsEvent (event slice) old new answer

-- A record of these characters is offered at a terminal, for the control station (own).
abbrev pub OffersAt : ℕ → List ℕ → LineValue → LineValue → Result (Unit {0}) Fault → Type 0
OffersAt terminal chars = AsEventOf (λ slice. event.OfferAt terminal slice) chars

-- A record of these characters is offered at the control station, for a selection address of a
-- terminal (own).
abbrev pub OffersFor : ℕ → ℕ → List ℕ → LineValue → LineValue → Result (Unit {0}) Fault → Type 0
OffersFor terminal select chars = AsEventOf (λ slice. event.OfferFor terminal select slice) chars

-- The pending transmission is heard as these octets, by all terminals or by the control station
-- (GA27-3004: centralised multipoint operation).
abbrev pub Carries : List ℕ → LineValue → LineValue → Result (Unit {0}) Fault → Type 0
Carries octets = AsEventOf (λ slice. event.Carry (Some slice)) octets

-- The pending transmission is lost: nobody hears it.
abbrev pub Loses : LineValue → LineValue → Result (Unit {0}) Fault → Type 0
Loses = AsEvent (event.Carry None)

-- The pending transmission is heard as it was sent.
abbrev pub CarriesSent : LineValue → LineValue → Result (Unit {0}) Fault → Type 0
CarriesSent = AsEvent event.CarrySent

-- Nothing is heard for the time of a time-out (GA27-3004: time-outs).
abbrev pub PassesSilence : LineValue → LineValue → Result (Unit {0}) Fault → Type 0
PassesSilence = AsEvent event.Silence

-- A terminal is set to accept selections, or to answer them by NAK (GA27-3004: NAK to a selection).
abbrev pub SetsReady : ℕ → Bool → LineValue → LineValue → Result (Unit {0}) Fault → Type 0
SetsReady terminal ready = AsEvent (event.Ready terminal ready)

-- The entries of a terminal are called, or passed over (GA27-3004: poll list). That this can change
-- is this project's own.
abbrev pub SetsPolled : ℕ → Bool → LineValue → LineValue → Result (Unit {0}) Fault → Type 0
SetsPolled terminal polled = AsEvent (event.Polled terminal polled)

-- A terminal asks the control station for the line (GA27-3004: reverse interrupt).
abbrev pub SetsUrgentAt : ℕ → LineValue → LineValue → Result (Unit {0}) Fault → Type 0
SetsUrgentAt terminal = AsEvent (event.UrgentAt terminal)

-- The control station asks a terminal for the line (GA27-3004: reverse interrupt).
abbrev pub SetsUrgentFor : ℕ → LineValue → LineValue → Result (Unit {0}) Fault → Type 0
SetsUrgentFor terminal = AsEvent (event.UrgentFor terminal)

-- A terminal's doubt is ended by the count of the records at the control station (own).
abbrev pub ReleasesFrom : ℕ → LineValue → LineValue → Result (Unit {0}) Fault → Type 0
ReleasesFrom terminal = AsEvent (event.Release terminal FromTerminal)

-- The control station's doubt about a selection address is ended by the count of the records at the
-- terminal (own).
abbrev pub ReleasesTo : ℕ → ℕ → LineValue → LineValue → Result (Unit {0}) Fault → Type 0
ReleasesTo terminal select = AsEvent (event.Release terminal (ToTerminal select))

-- The control station begins again, as after the end of its process (own).
abbrev pub RestartsControl : LineValue → LineValue → Result (Unit {0}) Fault → Type 0
RestartsControl = AsEvent (event.Restart Control)

-- A terminal begins again, as after the end of its process (own).
abbrev pub RestartsTerminal : ℕ → LineValue → LineValue → Result (Unit {0}) Fault → Type 0
RestartsTerminal terminal = AsEvent (event.Restart (Terminal terminal))
