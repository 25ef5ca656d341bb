-- A run of a station goes on.
use Rattle.std.proofs.Common.{◌≡◌, ℕ, zero, suc, Bool, true, false, List, Option, None, Some, sym}
use Rattle.std.proofs.Common.{subst, Result, Ok, Err, refl}
use Rattle.bsc_bid.specs.declared.station.Station as station_of
use Rattle.bsc_connections.specs.declared.awaited.LiveError.{LiveError}
use Rattle.bsc_keeping.specs.FedRuns.{RunsFed}
use Rattle.bsc_keeping.specs.declared.keeps.Keeps as keeps_of
use Rattle.bsc_station.specs.declared.line_station.LineStation as line_of
use Rattle.bsc_keeping.specs.LiveRuns.{Course, State, begins, course_of, forgot_arrived, forgot_sent}
use Rattle.bsc_keeping.specs.LiveRuns.{goes, is_fine, kept_again, not_offered, offered, polled}
use Rattle.bsc_keeping.specs.LiveRuns.{printed, released, set, stepped, stopped, told_to_end}
use Rattle.bsc_monitor.specs.Polls.{Settles}
use Rattle.bsc_attending.specs.Forgetting.{ForgetsEach, ForgetsIf, ForgetsIfSo, ForgetsUnneeded}
use Rattle.bsc_attending.specs.Live.{SettlesAndSteps, state}

-- a step that does not fail is fine
pub fine_step : (goes_on : Bool) → is_fine (course_of (Ok goes_on)) ≡ true
fine_step true = refl
fine_step false = refl

module _ {S Q Z : Type 0} (known : station_of.Ghosts S) (line : line_of.Ghosts S Z)
    (keeping : keeps_of.Ghosts Q S) (is_fed : Bool) where
  abbrev Goes : Course → State S Q → State S Q → Type 0
  Goes = RunsFed known line keeping is_fed

  module _ (course : Course) (fine : is_fine course ≡ true) (first : State S Q) (kept : Q) where
    abbrev Reached : S → Type 0
    Reached station = Goes course first (state station kept)

    on_if : (count : Option ℕ) (number : ℕ) (old new : S) → Reached old
        → ForgetsIf line.forgets_arrived count number old new → Reached new
    on_if None number old new so_far same = subst Reached (sym same) so_far
    on_if (Some count) number old new so_far forgets = forgot_arrived fine so_far forgets

    on_each : (counts : ℕ → Option ℕ) (channels : ℕ) (old new : S) → Reached old
        → ForgetsEach line.forgets_arrived counts channels old new → Reached new
    on_each counts zero old new so_far same = subst Reached (sym same) so_far
    on_each counts (suc channels) old new so_far (mid, before, last) =
        on_if (counts channels) channels mid new (on_each counts channels old mid so_far before) last

    -- it has forgotten what it does not need any more
    once_forgotten : (receives : S → ℕ) (counts : ℕ → Option ℕ) (is_asked : Bool) (old new : S)
        → Reached old
        → ForgetsUnneeded line.forgets_sent line.forgets_arrived receives counts is_asked old new
        → Reached new
    once_forgotten receives counts false old new so_far forgets = forgot_sent fine so_far forgets
    once_forgotten receives counts true old new so_far (mid, sent, each) =
        on_each counts (receives mid) mid new (forgot_sent fine so_far sent) each

    -- it has forgotten in this step, or not
    pub once_at_times : (receives : S → ℕ) (counts : ℕ → Option ℕ) (in_this is_asked : Bool)
        (old new : S) → Reached old
        → ForgetsIfSo line.forgets_sent line.forgets_arrived receives counts in_this is_asked old
        new
        → Reached new
    once_at_times receives counts true is_asked old new so_far forgets =
        once_forgotten receives counts is_asked old new so_far forgets
    once_at_times receives counts false is_asked old new so_far same =
        subst Reached (sym same) so_far

    -- the terminals are polled that are to be
    pub once_settled : (wanted : ℕ → Bool) (count : ℕ) (old new : S) → Reached old
        → Settles line.polls wanted count old new → Reached new
    once_settled wanted zero old new so_far same = subst Reached (sym same) so_far
    once_settled wanted (suc t) old new so_far (mid, before, last) =
        polled fine (once_settled wanted t old mid so_far before) last

  -- a run that goes on from where another has led
  pub run_then : {course : Course} {first mid new : State S Q} → Goes goes first mid
      → Goes course mid new → Goes course first new
  run_then {first = first} sooner (begins same) =
      subst (λ now. Goes goes first now) (sym same) sooner
  run_then sooner (stepped result later step) = stepped result (run_then sooner later) step
  run_then sooner (printed fine later prints) = printed fine (run_then sooner later) prints
  run_then sooner (forgot_sent fine later forgets) = forgot_sent fine (run_then sooner later) forgets
  run_then sooner (forgot_arrived fine later forgets) =
      forgot_arrived fine (run_then sooner later) forgets
  run_then sooner (polled fine later polls) = polled fine (run_then sooner later) polls
  run_then sooner (kept_again result fine later keeps) =
      kept_again result fine (run_then sooner later) keeps
  run_then sooner (offered later keeps offers) = offered (run_then sooner later) keeps offers
  run_then sooner (not_offered way later asks keeps) =
      not_offered way (run_then sooner later) asks keeps
  run_then sooner (released result later releases keeps) =
      released result (run_then sooner later) releases keeps
  run_then sooner (set later sets) = set (run_then sooner later) sets
  run_then sooner (told_to_end later) = told_to_end (run_then sooner later)
  run_then sooner (stopped later) = stopped (run_then sooner later)

  -- the terminals are polled that are to be, and the station takes a step
  pub once_stepped : (first : State S Q) (wanted : ℕ → Bool) (count : ℕ) (station : S) (kept : Q)
      (result : Result Bool LiveError) (new : State S Q) → Goes goes first (state station kept)
      → SettlesAndSteps known keeping.keeps line.polls wanted count (state station kept)
      result new
      → Goes (course_of result) first new
  once_stepped first wanted count station kept result new so_far steps =
      stepped result
      (once_settled goes refl first kept wanted count station steps.settled so_far steps.settles)
      steps.steps

  -- after a step records are printed, and at times what is not needed is forgotten
  pub once_tidied : (first : State S Q) (goes_on : Bool) (station : S) (kept : Q) (more : Q)
      (receives : S → ℕ) (counts : ℕ → Option ℕ) (in_this is_asked : Bool) (new : S)
      → Goes (course_of (Ok goes_on)) first (state station kept) → keeping.prints kept station more
      → ForgetsIfSo line.forgets_sent line.forgets_arrived receives counts in_this is_asked
      station new
      → Goes (course_of (Ok goes_on)) first (state new more)
  once_tidied first goes_on station kept more receives counts in_this is_asked new so_far prints
      forgets =
      once_at_times (course_of (Ok goes_on)) (fine_step goes_on) first more receives counts in_this
      is_asked station new (printed (fine_step goes_on) so_far prints) forgets

  -- the station was told that it is asked to end, or need not be
  pub after_told : (result : Result Bool LiveError) {first now : State S Q} → Goes goes first now
      → Goes (course_of result) first now
  after_told (Ok true) run = run
  after_told (Ok false) run = told_to_end run
  after_told (Err error) run = stopped run

-- whether programs can feed the station is the same
pub as_fed : {S Q Z : Type 0} (known : station_of.Ghosts S) (line : line_of.Ghosts S Z)
    (keeping : keeps_of.Ghosts Q S) (a b : Bool) {course : Course} {first new : State S Q} → a ≡ b
    → RunsFed known line keeping a course first new → RunsFed known line keeping b course first new
as_fed known line keeping a b {course = course} {first = first} {new = new} same run =
    subst (λ is_fed. RunsFed known line keeping is_fed course first new) same run
