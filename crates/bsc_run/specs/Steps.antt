-- The effect of the events of a script on a line and a cable.
use Rattle.std.specs.Prelude.{◌≡◌, ◌⊎◌, ℕ, Bool, true, false, if◌then◌else◌, List, [], length, map}
use Rattle.std.specs.Prelude.{Option, None, Some, Result, Ok, Err, OnOk}
use Rattle.std.specs.Borrow.{Bor}
use Rattle.std.specs.Io.KnownBytes.{Appends}
use Rattle.std.specs.Str.{bytes_eq}
use Rattle.bsc_frame.specs.declared.message.Message.{Message}
use Rattle.bsc_frame.specs.Wire.{wire}
use Rattle.bsc_carrier.specs.Cable.{CableValue}
use Rattle.bsc_line_model.specs.declared.transmission.Transmission.{Transmission}
use Rattle.bsc_line_model.specs.declared.error.LineError.{LineError}
use Rattle.bsc_line_model.specs.declared.event.Event.{Event}
use Rattle.bsc_line_model.specs.declared.event.Event.TheVariants as event
use Rattle.bsc_line_model.specs.Hearing.{octets_in}
use Rattle.bsc_line_model.specs.Line.{LineValue}
use Rattle.bsc_line_model.specs.Runs.{Does}
use Rattle.bsc_config.specs.Events.{Event as Asked, offer_at, offer_for, carry, lose, heard}
use Rattle.bsc_config.specs.Events.{heard_each, silence, ready, polled, urgent_at, urgent_for}
use Rattle.bsc_config.specs.Events.{release}
use Rattle.bsc_run.specs.declared.error.StepError.{StepError}
use Rattle.bsc_run.specs.declared.error.StepError.TheVariants.{Refused}
use Rattle.bsc_run.specs.Crossing.{Streams, Crosses, ItemsCross}
use Rattle.bsc_run.specs.Printed.{pending_line}
use Rattle.bsc_run.specs.Speaking.{Fits}
use Rattle.bsc_run.specs.Traces.{if_traced, lines_of}

-- The codes of a record, as an event holds them.
abbrev pub HasCodes : (Bor (List ℕ) → Event) → List ℕ → Event → Type 0
HasCodes offer codes e = (told : Bor (List ℕ)) × (told.now ≡ codes) × (e ≡ offer told)

-- The pending transmission is heard, as it was sent or as some octets.
abbrev pub IsHearing : Event → Type 0
IsHearing e = (e ≡ event.CarrySent) ⊎ ((octets : Bor (List ℕ)) × (e ≡ event.Carry (Some octets)))

-- The events of the line for an event of a script. If octets or items are heard, there is one for
-- each possible hearing.
abbrev pub MayBe : Asked → Event → Type 0
MayBe (offer_at t codes) e = HasCodes (event.OfferAt t) codes e
MayBe (offer_for t s codes) e = HasCodes (event.OfferFor t s) codes e
MayBe carry e = IsHearing e
MayBe lose e = e ≡ event.Carry None
MayBe (heard given) e = IsHearing e
MayBe (heard_each items) e =
    (words : Bor (List (Option (Bor (List ℕ))))) × (length words.now ≡ length items)
    × (e ≡ event.CarryEach words)
MayBe silence e = e ≡ event.Silence
MayBe (ready t takes) e = e ≡ event.Ready t takes
MayBe (polled t on) e = e ≡ event.Polled t on
MayBe (urgent_at t) e = e ≡ event.UrgentAt t
MayBe (urgent_for t) e = e ≡ event.UrgentFor t
MayBe (release t way) e = e ≡ event.Release t way

-- An event of a script is refused, whatever would have been heard.
abbrev pub Refuses : Asked → LineError → LineValue → LineValue → Type 0
Refuses asked why old new = (e : Event) → MayBe asked e → Does e old (Err why) new

-- The event of the line for octets that were read at the far end: the transmission is heard as it
-- was sent if they are the octets of its message, and otherwise as these octets.
abbrev pub heard_as : Message → Bor (List ℕ) → Event
heard_as message octets =
    if bytes_eq octets.now (wire message) then event.CarrySent else event.Carry (Some octets)

-- A line, and the cable that its transmissions cross.
pub record OnCable (S : Type 0) : Type 0 where
  pub line : LineValue
  pub cable : CableValue S

-- A line, its cable, and what the writer of the trace holds.
pub record Acting (S : Type 0) : Type 0 where
  pub line : LineValue
  pub cable : CableValue S
  pub trace : Option (List ℕ)

abbrev pub acting : {S : Type 0} → LineValue → CableValue S → Option (List ℕ) → Acting S
acting line cable trace = record { line = line; cable = cable; trace = trace }

-- The line and its cable, without the trace.
abbrev pub acts_on : {S : Type 0} → Acting S → OnCable S
acts_on a = record { line = a.line; cable = a.cable }

-- The answer to a step in which nothing crosses the cable, for the answer of the line. This text is
-- written for the trace if the line accepts the event, and nothing if it refuses it.
pub record Answers (answer : Result (Unit {0}) LineError) (text : List ℕ)
    (result : Result (Unit {0}) StepError) (held holds : Option (List ℕ)) : Type 0 where
  pub done : OnOk result ((answer ≡ Ok tt) × Appends held holds text)
  pub refused : (why : LineError) → result ≡ Err (Refused why)
      → (answer ≡ Err why) × Appends held holds []

module _ {S : Type 0} (streams : Streams S) where
  -- Octets cross the cable from the sender of the pending transmission, and `read` are those that
  -- arrive. The octets are those of its message, or others in their place.
  pub record Sends (sent : Message → List ℕ) (l : LineValue) (read : List ℕ)
      (old new : CableValue S) : Type 0 where
    pub transmission : Transmission
    pub pending : l.pending ≡ Some transmission
    pub crossed : Crosses streams transmission.speaker (sent transmission.message) read
        old new

  -- Octets cross the cable in this way, and the pending transmission is heard as those that were
  -- read.
  pub record HearsOctets (sent : Message → List ℕ) (e : Event) (l : LineValue)
      (old new : CableValue S) : Type 0 where
    pub octets : Bor (List ℕ)
    pub sends : Sends sent l octets.now old new
    pub is : e ≡ heard_as sends.transmission.message octets

  -- The items cross the cable, and each terminal hears the octets that were read at its end.
  pub record HearsItems (items : List (Option (List ℕ))) (e : Event) (old new : CableValue S)
      : Type 0 where
    pub words : Bor (List (Option (Bor (List ℕ))))
    pub crossed : ItemsCross streams items (map octets_in words.now) old new
    pub is : e ≡ event.CarryEach words

  -- The crossing of the cable for an event of a script that is accepted as this event of the line.
  -- If nothing is to be heard, nothing crosses.
  abbrev pub Crossing : Asked → Event → LineValue → CableValue S → CableValue S → Type 0
  Crossing carry e l old new = HearsOctets wire e l old new
  Crossing (heard given) e l old new = HearsOctets (λ message. given) e l old new
  Crossing (heard_each items) e l old new = HearsItems items e old new
  Crossing asked e l old new = MayBe asked e × (new ≡ old)

  -- An event of a script is accepted: its octets cross the cable, and the line performs the
  -- corresponding event.
  pub record Accepts (asked : Asked) (old new : OnCable S) : Type 0 where
    pub event : Event
    pub crossing : Crossing asked event old.line old.cable new.cable
    pub done : Does event old.line (Ok tt) new.line

  -- An event of a script is accepted, and the lines of the trace that tell what it is are written,
  -- if there is a trace.
  pub record AcceptsTraced (number : Option ℕ) (asked : Asked) (old new : Acting S)
      : Type 0 where
    pub accepts : Accepts asked (acts_on old) (acts_on new)
    pub traced : Appends old.trace new.trace
        (if_traced number (λ n. lines_of n asked accepts.event old.line))

  -- The answer to an event of a script: it is accepted, or it is refused and nothing crosses the
  -- cable and nothing is written for the trace, or a fault interrupts it.
  pub record Acts (number : Option ℕ) (asked : Asked) (old : Acting S)
      (result : Result (Unit {0}) StepError) (new : Acting S) : Type 0 where
    pub accepted : OnOk result (AcceptsTraced number asked old new)
    pub fits : OnOk result (Fits new.line new.cable)
    pub refused : (why : LineError) → result ≡ Err (Refused why)
        → Refuses asked why old.line new.line × (new.cable ≡ old.cable)
        × Appends old.trace new.trace []

-- Whether the event is an event of hearing: `carry`, `lose`, `heard`, `heard-each` or `silence`.
abbrev pub is_heard : Asked → Bool
is_heard carry = true
is_heard lose = true
is_heard (heard given) = true
is_heard (heard_each items) = true
is_heard silence = true
is_heard _ = false

-- The text printed after an accepted event: the pending transmission, after an event of hearing.
abbrev pub pending_after : Asked → LineValue → List ℕ
pending_after asked l = if is_heard asked then pending_line l.pending else []
