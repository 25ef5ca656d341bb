-- A station that runs, from one state to another, whatever its connections are and whatever keeps
-- what it changes.
use Rattle.std.specs.Prelude.{◌≡◌, ◌≢◌, ◌⊎◌, ℕ, Bool, true, false, List, [], Option, Result, Ok}
use Rattle.std.specs.Prelude.{Err, is_ok}
use Rattle.bsc_frame.specs.declared.message.Heard.{Heard}
use Rattle.bsc_frame.specs.declared.message.Message.{Message}
use Rattle.bsc_bid.specs.declared.station.Station as station_of
use Rattle.bsc_bid.specs.declared.way.Way.{Way}
use Rattle.bsc_spool.specs.declared.fault.StoreFault.{StoreFault}
use Rattle.bsc_connections.specs.Attending.{Session}
use Rattle.bsc_connections.specs.declared.awaited.LiveError.{LiveError}
use Rattle.bsc_keeping.specs.Runs.{ForPrograms}
use Rattle.bsc_keeping.specs.declared.keeping.Keeping.{Keeping}

-- A station, and what keeps what it changes.
pub record State (S Q : Type 0) : Type 0 where
  pub station : S
  pub kept : Q

-- Those of a session.
abbrev pub state_of : {S C M Q T : Type 0} → Session S C (Keeping M Q) T → State S Q
state_of now = record { station = now.station; kept = now.monitor.kept.now }

-- Whether a run goes on, has ended, or has failed.
pub data Course : Type 0 where
  goes : Course
  ended : Course
  failed : Course

abbrev pub is_fine : Course → Bool
is_fine goes = true
is_fine ended = true
is_fine failed = false

-- The course after a step with this result, which says whether the station is attended further.
abbrev pub course_of : Result Bool LiveError → Course
course_of (Ok true) = goes
course_of (Ok false) = ended
course_of (Err error) = failed

-- The same course, unless something has failed.
abbrev pub unless_failed : {A : Type 0} → Result A LiveError → Course → Course
unless_failed (Ok done) course = course
unless_failed (Err error) course = failed

-- The station stays as it is, hears a transmission, or acts on a silence.
abbrev pub Moves : {S : Type 0} → station_of.Ghosts S → S → S → Type 0
Moves station old new =
    (new ≡ old)
    ⊎ (((heard : Heard) × (answer : Option Message) × station.hears old heard new answer)
    ⊎ ((answer : Option Message) × station.acts old new answer))

-- What is known of a station, and what it means that what it has changed is kept.
module _ {S Q : Type 0} (station : station_of.Ghosts S)
    (keeps : Q → S → Result (Unit {0}) LiveError → Q → Type 0) where
  -- All that the station has changed was kept.
  abbrev pub HasKept : State S Q → State S Q → Type 0
  HasKept old new = (done : Unit {0}) × keeps old.kept new.station (Ok done) new.kept

  -- A step of a station in which these transmissions are sent; the flag says whether the station is
  -- attended further. What it has changed is kept once, if anything is. If something is sent, all
  -- of it is kept before, and so it is if the station is attended further, where it or what is kept
  -- of it has changed.
  pub record Step (sent : List (List ℕ)) (goes_on : Bool) (old new : State S Q) : Type 0 where
    pub event : Moves station old.station new.station
    pub left : (new.kept ≡ old.kept)
        ⊎ ((result : Result (Unit {0}) LiveError) × keeps old.kept new.station result new.kept)
    pub before_sent : sent ≢ [] → HasKept old new
    pub before_next : goes_on ≡ true
        → HasKept old new ⊎ ((new.station ≡ old.station) × (new.kept ≡ old.kept))

  -- A step, or a wait that failed, after which nothing has changed. The result says whether the
  -- station is attended further.
  abbrev pub StepsOrWaits : State S Q → Result Bool LiveError → State S Q → Type 0
  StepsOrWaits old result new =
      ((sent : List (List ℕ)) × Step sent (is_ok result) old new)
      ⊎ ((new ≡ old) × (is_ok result ≡ false))

  -- The same, what it means that a record which programs offer is kept, that records are printed,
  -- what the station forgets of the records that are known to have arrived, and of those that
  -- arrived, what it does once a terminal is to be polled or not, and what it does for programs.
  module _ (keeps_offer : Q → ℕ → Way → List ℕ → Result (List ℕ) StoreFault → Q → Type 0)
      (prints : Q → S → Q → Type 0) (forgets_sent : S → S → Type 0)
      (forgets_arrived : S → ℕ → ℕ → S → Type 0) (polls : S → ℕ → Bool → S → Type 0)
      (does : ForPrograms S) where
    -- A run of a station: steps, and between them records are printed and forgotten, terminals are
    -- polled again or no more, and programs are served. A record that they offer is kept, and only
    -- then offered; if the station has no memory for it, the run fails. The end of a doubt is kept
    -- once the station has ended it. There is no step, and no program is served, once the run has
    -- ended; and nothing follows what fails.
    pub data Run : Course → State S Q → State S Q → Type 0 where
      begins : {first now : State S Q} → now ≡ first → Run goes first now
      stepped : {first old new : State S Q} (result : Result Bool LiveError) → Run goes first old
          → StepsOrWaits old result new → Run (course_of result) first new
      printed : {course : Course} {first old : State S Q} {kept : Q} → is_fine course ≡ true
          → Run course first old → prints old.kept old.station kept
          → Run course first (record { station = old.station; kept = kept })
      forgot_sent : {course : Course} {first old : State S Q} {new : S} → is_fine course ≡ true
          → Run course first old → forgets_sent old.station new
          → Run course first (record { station = new; kept = old.kept })
      forgot_arrived : {course : Course} {first old : State S Q} {number count : ℕ} {new : S}
          → is_fine course ≡ true → Run course first old
          → forgets_arrived old.station number count new
          → Run course first (record { station = new; kept = old.kept })
      polled : {course : Course} {first old : State S Q} {terminal : ℕ} {wanted : Bool} {new : S}
          → is_fine course ≡ true → Run course first old → polls old.station terminal wanted new
          → Run course first (record { station = new; kept = old.kept })
      kept_again : {course : Course} {first old : State S Q} (result : Result (Unit {0}) LiveError)
          {kept : Q} → is_fine course ≡ true → Run course first old
          → keeps old.kept old.station result kept
          → Run (unless_failed result course) first (record { station = old.station; kept = kept })
      offered : {first old : State S Q} {terminal : ℕ} {way : Way} {chars : List ℕ} {kept : Q}
          {new : S} → Run goes first old → keeps_offer old.kept terminal way chars (Ok chars) kept
          → does.offers old.station terminal way chars new
          → Run goes first (record { station = new; kept = kept })
      not_offered : {first old : State S Q} {terminal : ℕ} (way : Way) {chars : List ℕ}
          {given : Result (List ℕ) StoreFault} {kept : Q} → Run goes first old → does.asks
          → keeps_offer old.kept terminal way chars given kept
          → Run failed first (record { station = old.station; kept = kept })
      released : {first old : State S Q} {terminal : ℕ} {way : Way} {count : ℕ}
          (result : Result (Unit {0}) LiveError) {kept : Q} {new : S} → Run goes first old
          → does.releases old.station terminal way count new → keeps old.kept new result kept
          → Run (unless_failed result goes) first (record { station = new; kept = kept })
      set : {first old : State S Q} {new : S} → Run goes first old → does.sets old.station new
          → Run goes first (record { station = new; kept = old.kept })
      told_to_end : {first now : State S Q} → Run goes first now → Run ended first now
      stopped : {first now : State S Q} → Run goes first now → Run failed first now
