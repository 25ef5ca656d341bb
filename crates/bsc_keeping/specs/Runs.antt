-- A station whose records are kept, from one moment to another, whatever its connections are.
use Rattle.std.specs.Prelude.{◌≡◌, ◌≢◌, ◌⊎◌, ℕ, Bool, true, false, List, [], Option, Result, Ok}
use Rattle.std.specs.Prelude.{Err, is_ok}
use Rattle.bsc_frame.specs.declared.message.Heard.{Heard}
use Rattle.bsc_frame.specs.declared.message.Message.{Message}
use Rattle.bsc_bid.specs.declared.kept.KeptSender.{KeptSender}
use Rattle.bsc_bid.specs.declared.station.Station as station_of
use Rattle.bsc_bid.specs.Ways.{select_of}
use Rattle.bsc_bid.specs.declared.way.Way.{Way}
use Rattle.bsc_spool.specs.declared.fault.StoreFault.{StoreFault}
use Rattle.bsc_spool.specs.declared.store.Store as store_of
use Rattle.bsc_connections.specs.declared.awaited.LiveError.{LiveError}
use Rattle.bsc_connections.specs.Attending.{Session, Steps}
use Rattle.bsc_connections.specs.Connections.{ConnectionValue}
use Rattle.bsc_connections.specs.Histories.{Happening, all_sent}
use Rattle.bsc_connections.specs.Parts.{SessionParts}
use Rattle.bsc_station.specs.declared.party.Party as party_of
use Rattle.bsc_keeping.specs.Keeping.{KeepsChanged, KeepsStep, SurvivesAll, step_of}
use Rattle.bsc_keeping.specs.Offers.{KeepsOffer}
use Rattle.bsc_keeping.specs.declared.keeper.Keeper.{Keeper}
use Rattle.bsc_keeping.specs.declared.keeping.Keeping.{Keeping}
use Rattle.bsc_keeping.specs.declared.stored.Stored.{Stored}

-- A station, and what keeps its records.
pub record Moment (S K : Type 0) : Type 0 where
  pub station : S
  pub keeper : Keeper K

-- Those of a session.
abbrev pub moment_of : {S C M K V T : Type 0} → Session S C (Keeping M (Stored K V)) T
    → Moment S K
moment_of now = record { station = now.station; keeper = now.monitor.kept.now.keeper }

-- What a station does for programs that feed it, between sessions: whether they can ask for
-- something, and how it is after a record was offered on the channel of a terminal in a direction,
-- after the doubt of the channel was ended with a count, and after another request, which is to
-- change nothing that is kept.
pub record ForPrograms (S : Type 0) : Type 1 where
  pub asks : Type 0
  pub offers : S → ℕ → Way → List ℕ → S → Type 0
  pub releases : S → ℕ → Way → ℕ → S → Type 0
  pub sets : S → S → Type 0

-- A station that no program can feed does none of that.
abbrev pub for_none : {S : Type 0} → ForPrograms S
for_none =
    record {
      asks = ⊥;
      offers = λ old terminal way chars new. ⊥;
      releases = λ old terminal way count new. ⊥;
      sets = λ old new. ⊥;
    }

-- What a station does for programs, if they can feed it.
abbrev pub if_fed : {S : Type 0} → Bool → ForPrograms S → ForPrograms S
if_fed true does = does
if_fed false does = for_none

-- What is known of a station with memory of type Z, what it says of the channels on which it sends,
-- and what is known of its store.
module _ {S K Z : Type 0} (station : station_of.Ghosts S) (party : party_of.Ghosts S Z)
    (kept_at : S → ℕ → ℕ → Option KeptSender) (store : store_of.Ghosts K) where
  -- The station stays as it is, hears a transmission, or acts on a silence.
  abbrev pub IsEvent : S → S → Type 0
  IsEvent old new =
      (new ≡ old)
      ⊎ (((heard : Heard) × (answer : Option Message) × station.hears old heard new answer)
      ⊎ ((answer : Option Message) × station.acts old new answer))

  -- A step of a session in which these transmissions are sent; the flag says whether the station
  -- is attended further. A crash at any moment of it leaves what was kept before, or all that the
  -- station has changed in it. If something is sent, all of that is kept, and so it is if the
  -- station is attended further, where it or what is kept of it has changed.
  pub record KeptStep (sent : List (List ℕ)) (goes_on : Bool) (old new : Moment S K) : Type 0
    where
      pub event : IsEvent old.station new.station
      pub printed : ℕ → Option ℕ
      pub crash : SurvivesAll store (step_of party kept_at store printed new.station old.keeper)
          old.keeper.store new.keeper.store
      pub before_sent : sent ≢ []
          → KeepsChanged party kept_at store printed new.station old.keeper new.keeper
      pub before_next : goes_on ≡ true
          → KeepsChanged party kept_at store printed new.station old.keeper new.keeper
          ⊎ ((new.station ≡ old.station) × (new.keeper ≡ old.keeper))

  -- So is each step of such sessions.
  abbrev pub EachStepIsKept : {R W F M V T : Type 0}
      → SessionParts S R W F (Keeping M (Stored K V)) T → Type 0
  EachStepIsKept {R} {W} {F} {M} {V} {T} parts =
      (old new : Session S (ConnectionValue R W F) (Keeping M (Stored K V)) T)
      (happened : List Happening) (result : Result Bool LiveError)
      → Steps parts old happened result new
      → KeptStep (all_sent happened) (is_ok result) (moment_of old) (moment_of new)

  -- The steps of a session; the flag says whether it ended without an error. Nothing follows a step
  -- that fails.
  pub data KeptSteps : Bool → Moment S K → Moment S K → Type 0 where
    begun : {first now : Moment S K} → now ≡ first → KeptSteps true first now
    one_more : {first old new : Moment S K} {sent : List (List ℕ)} → KeptSteps true first old
        → KeptStep sent true old new → KeptSteps true first new
    failed : {first old new : Moment S K} {sent : List (List ℕ)} → KeptSteps true first old
        → KeptStep sent false old new → KeptSteps false first new
    given_up : {first now : Moment S K} → KeptSteps true first now → KeptSteps false first now

  -- The same, what the station forgets of the records that are known to have arrived, and of those
  -- that arrived, what it does once a terminal is to be polled or not, and what it does for
  -- programs.
  module _ (forgets_sent : S → S → Type 0) (forgets_arrived : S → ℕ → ℕ → S → Type 0)
      (polls : S → ℕ → Bool → S → Type 0) (does : ForPrograms S) where
    -- A run of a station: sessions, and between them records are forgotten, terminals are polled
    -- again or no more, what has changed is kept, and programs are served. A record that they offer
    -- is kept, and only then offered; if the station has no memory for it, the run fails, and only
    -- the store has the record. The end of a doubt is kept once the station has ended it. The flag
    -- says whether all of it succeeded; nothing follows what fails.
    pub data KeptRun : Bool → Moment S K → Moment S K → Type 0 where
      begins : {first now : Moment S K} → now ≡ first → KeptRun true first now
      attended : {first old new : Moment S K} {fine : Bool} → KeptRun true first old
          → KeptSteps fine old new → KeptRun fine first new
      forgot_sent : {first old : Moment S K} {new : S} → KeptRun true first old
          → forgets_sent old.station new
          → KeptRun true first (record { station = new; keeper = old.keeper })
      forgot_arrived : {first old : Moment S K} {number count : ℕ} {new : S}
          → KeptRun true first old → forgets_arrived old.station number count new
          → KeptRun true first (record { station = new; keeper = old.keeper })
      polled : {first old : Moment S K} {terminal : ℕ} {wanted : Bool} {new : S}
          → KeptRun true first old → polls old.station terminal wanted new
          → KeptRun true first (record { station = new; keeper = old.keeper })
      kept : {first old : Moment S K} {printed : ℕ → Option ℕ} {done : Unit {0}}
          {new : Keeper K} → KeptRun true first old
          → KeepsStep party kept_at store printed old.station (Ok done) old.keeper new
          → KeptRun true first (record { station = old.station; keeper = new })
      not_kept : {first old : Moment S K} {printed : ℕ → Option ℕ} {fault : StoreFault}
          {new : Keeper K} → KeptRun true first old
          → KeepsStep party kept_at store printed old.station (Err fault) old.keeper new
          → KeptRun false first (record { station = old.station; keeper = new })
      offered : {first old : Moment S K} {terminal : ℕ} {way : Way} {chars : List ℕ}
          {keeper : Keeper K} {new : S} → KeptRun true first old
          → KeepsOffer store terminal (select_of way) chars (Ok chars) old.keeper keeper
          → does.offers old.station terminal way chars new
          → KeptRun true first (record { station = new; keeper = keeper })
      not_offered : {first old : Moment S K} {terminal : ℕ} (way : Way) {chars : List ℕ}
          {given : Result (List ℕ) StoreFault} {keeper : Keeper K} → KeptRun true first old
          → does.asks → KeepsOffer store terminal (select_of way) chars given old.keeper keeper
          → KeptRun false first (record { station = old.station; keeper = keeper })
      released : {first old : Moment S K} {terminal : ℕ} {way : Way} {count : ℕ}
          {printed : ℕ → Option ℕ} {done : Unit {0}} {keeper : Keeper K} {new : S}
          → KeptRun true first old → does.releases old.station terminal way count new
          → KeepsStep party kept_at store printed new (Ok done) old.keeper keeper
          → KeptRun true first (record { station = new; keeper = keeper })
      not_released : {first old : Moment S K} {terminal : ℕ} {way : Way} {count : ℕ}
          {printed : ℕ → Option ℕ} {fault : StoreFault} {keeper : Keeper K} {new : S}
          → KeptRun true first old → does.releases old.station terminal way count new
          → KeepsStep party kept_at store printed new (Err fault) old.keeper keeper
          → KeptRun false first (record { station = new; keeper = keeper })
      set : {first old : Moment S K} {new : S} → KeptRun true first old
          → does.sets old.station new
          → KeptRun true first (record { station = new; keeper = old.keeper })
      stopped : {first now : Moment S K} → KeptRun true first now → KeptRun false first now
