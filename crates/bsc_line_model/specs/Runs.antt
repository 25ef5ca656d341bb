-- What each event does to a line, and what a list of events does.
use Rattle.std.specs.Prelude.{◌≡◌, ◌≢◌, ◌⊎◌, ◌+◌, ℕ, List, [], ◌∷◌, length, Option, None, Some}
use Rattle.std.specs.Prelude.{Result, Ok, Err}
use Rattle.std.specs.Borrow.{Bor}
use Rattle.bsc_frame.specs.declared.message.Heard.{Heard}
use Rattle.bsc_frame.specs.declared.message.Heard.TheVariants.{Whole}
use Rattle.bsc_line_model.specs.declared.transmission.Transmission.{Transmission}
use Rattle.bsc_bid.specs.declared.speaker.Speaker.TheVariants.{Control}
use Rattle.bsc_line_model.specs.declared.error.LineError.{LineError}
use Rattle.bsc_line_model.specs.declared.error.LineError.TheVariants.{NothingSent, NotControl}
use Rattle.bsc_line_model.specs.declared.error.LineError.TheVariants.{WrongCount, Pending}
use Rattle.bsc_line_model.specs.declared.error.Stopped.{Stopped}
use Rattle.bsc_line_model.specs.declared.event.Event.{Event}
use Rattle.bsc_line_model.specs.declared.event.Event.TheVariants.{OfferAt, OfferFor, Carry}
use Rattle.bsc_line_model.specs.declared.event.Event.TheVariants.{CarryEach, CarrySent, Silence}
use Rattle.bsc_line_model.specs.declared.event.Event.TheVariants.{Ready, UrgentAt, UrgentFor}
use Rattle.bsc_line_model.specs.declared.event.Event.TheVariants.{Polled, Release, Restart}
use Rattle.bsc_line_model.specs.Line.{LineValue, terminal_count}
use Rattle.bsc_line_model.specs.Hearing.{heard_in, heard_at, octets_in}
use Rattle.bsc_line_model.specs.Kept.{IsLine}
use Rattle.bsc_line_model.specs.Terminals.{line_owner}
use Rattle.bsc_line_model.specs.Carries.{IsCarriedBy, IsCarriedDown, OwnerActs}
use Rattle.bsc_line_model.specs.Offers.{OffersAt, OffersFor, Sets, ready_set, urgent_set_at}
use Rattle.bsc_line_model.specs.Offers.{urgent_set_for, polled_set, Releases}
use Rattle.bsc_line_model.specs.Restarts.{Restarts}

-- the pending transmission is heard as `hear` says
pub record CarriesAs (hear : Transmission → Heard) (old new : LineValue) : Type 0 where
  pub sent : Transmission
  pub pending : old.pending ≡ Some sent
  pub carried : IsCarriedBy sent.speaker sent.message (hear sent) old new

-- a transmission is carried, or nothing is pending
abbrev pub Carries : (Transmission → Heard) →
    LineValue → Result (Unit {0}) LineError → LineValue → Type 0
Carries hear old (Ok done) new = CarriesAs hear old new
Carries hear old (Err NothingSent) new = (old.pending ≡ None) × (new ≡ old)
Carries hear old (Err _) new = ⊥

-- the control station's transmission is heard by each terminal as its item
pub record CarriesEachAs (items : List (Option (Bor (List ℕ)))) (old new : LineValue)
    : Type 0 where
  pub sent : Transmission
  pub pending : old.pending ≡ Some sent
  pub control : sent.speaker ≡ Control
  pub count : length items ≡ terminal_count old
  pub carried : IsCarriedDown sent.message (heard_at items) old new

-- a terminal's transmission is pending
pub record IsFromTerminal (l : LineValue) : Type 0 where
  pub sent : Transmission
  pub pending : l.pending ≡ Some sent
  pub speaker : sent.speaker ≢ Control

-- the control station's transmission is pending
pub record IsFromControl (l : LineValue) : Type 0 where
  pub sent : Transmission
  pub pending : l.pending ≡ Some sent
  pub speaker : sent.speaker ≡ Control

-- each terminal hears its item, or the event is refused
abbrev pub CarriesEach : List (Option (Bor (List ℕ))) →
    LineValue → Result (Unit {0}) LineError → LineValue → Type 0
CarriesEach items old (Ok done) new = CarriesEachAs items old new
CarriesEach items old (Err NothingSent) new = (old.pending ≡ None) × (new ≡ old)
CarriesEach items old (Err NotControl) new = IsFromTerminal old × (new ≡ old)
CarriesEach items old (Err WrongCount) new =
    IsFromControl old × (length items ≢ terminal_count old) × (new ≡ old)
CarriesEach items old (Err _) new = ⊥

-- a silence passes: the owner of the line acts
pub record PassesSilence (old new : LineValue) : Type 0 where
  pub nothing : old.pending ≡ None
  pub acts : OwnerActs (line_owner old.terminals) old new

-- a silence passes, or a transmission is pending
abbrev pub FallsSilent : LineValue → Result (Unit {0}) LineError → LineValue → Type 0
FallsSilent old (Ok done) new = PassesSilence old new
FallsSilent old (Err Pending) new = (old.pending ≢ None) × (new ≡ old)
FallsSilent old (Err _) new = ⊥

-- the relation of an event, a row for each kind: the line before, the answer, and the line after
abbrev pub Does : Event → LineValue → Result (Unit {0}) LineError → LineValue → Type 0
Does (OfferAt t codes) old result new = OffersAt old t codes.now result new
Does (OfferFor t s codes) old result new = OffersFor old t s codes.now result new
Does (Carry item) old result new = Carries (λ sent. heard_in (octets_in item)) old result new
Does (CarryEach items) old result new = CarriesEach items.now old result new
Does CarrySent old result new =
    Carries (λ (sent : Transmission). Whole sent.message) old result new
Does Silence old result new = FallsSilent old result new
Does (Ready t ready) old result new = Sets old t (ready_set old t ready) result new
Does (UrgentAt t) old result new = Sets old t (urgent_set_at old t) result new
Does (UrgentFor t) old result new = Sets old t (urgent_set_for old t) result new
Does (Polled t polled) old result new = Sets old t (polled_set old t polled) result new
Does (Release t way) old result new = Releases old t way result new
Does (Restart party) old result new = Restarts old party result new

-- the event is accepted, and a run of the rest continues from the line that it leaves
pub record GoesOn (event : Event) (old : LineValue) (Rest : LineValue → Type 0) : Type 0 where
  pub mid : LineValue
  pub line : IsLine mid
  pub done : Does event old (Ok tt) mid
  pub rest : Rest mid

-- the event is refused at this place
pub record StopsAt (event : Event) (at : ℕ) (old : LineValue) (stopped : Stopped) (new : LineValue)
    : Type 0 where
  pub place : stopped.at ≡ at
  pub refused : Does event old (Err stopped.why) new

-- the events are applied in order, up to the first that is refused; `at` is the place of the first
-- of them
abbrev pub RunsFrom :
    ℕ → LineValue → List Event → Result (Unit {0}) Stopped → LineValue → Type 0
RunsFrom at old [] (Ok done) new = new ≡ old
RunsFrom at old [] (Err e) new = ⊥
RunsFrom at old (x ∷ xs) (Ok done) new =
    GoesOn x old (λ mid. RunsFrom (at + 1) mid xs (Ok done) new)
RunsFrom at old (x ∷ xs) (Err e) new =
    StopsAt x at old e new ⊎ GoesOn x old (λ mid. RunsFrom (at + 1) mid xs (Err e) new)

-- a run of a list of events
abbrev pub Runs : LineValue → List Event → Result (Unit {0}) Stopped → LineValue → Type 0
Runs old events result new = RunsFrom 0 old events result new
