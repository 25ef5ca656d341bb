-- What a station that was attended has done, by what keeps what it changes.
use Rattle.std.proofs.Common.{◌≡◌, ℕ, Bool, true, false, List, sym, subst}
use Rattle.std.proofs.Common.{Result, Ok, Err, IsErr, ◌⊎◌, inl, inr, refl, ap, ◌∙◌}
use Rattle.bsc_control.specs.Control.{ControlValue}
use Rattle.bsc_connections.specs.declared.awaited.LiveError.{LiveError}
use Rattle.bsc_keeping.specs.LiveRuns.{Course, State, ended, failed, goes, is_fine}
use Rattle.bsc_keeping.specs.LiveRuns.{unless_failed}
use Rattle.bsc_keeping.specs.Runs.{Moment}
use Rattle.bsc_keeping.specs.declared.keeper.Keeper.{Keeper}
use Rattle.bsc_keeping.specs.declared.stored.Stored.{Stored}
use Rattle.bsc_station.specs.LineTerminal.{LineTerminalValue}
use Rattle.bsc_attending.specs.Live.{PreparedRanLive, RanLive, state}
use Rattle.bsc_attending.specs.Runs.{HasRunPrinted, PreparedRunsKept, PreparedRunsPrinted}
use Rattle.bsc_attending.specs.Runs.{RunsKept, RunsPrinted, at}
use Rattle.bsc_attending.specs.declared.preparing.Prepared.{Prepared}
use Rattle.bsc_attending.specs.declared.preparing.Prepared.TheVariants as prepared

-- a station that was attended with this result
pub ran_as : {S Q A : Type 0} (runs : Course → State S Q → State S Q → Type 0) (old new : S)
    (kept left : Q) (result : Result A LiveError) (failure : Type 0)
    → runs (unless_failed result ended) (state old kept) (state new left)
    → (IsErr result → failure) → RanLive runs old new kept left failure
ran_as runs old new kept left (Ok done) failure ran means =
    record { course = ended; ran = ran; ends = inl refl }
ran_as runs old new kept left (Err error) failure ran means =
    record { course = failed; ran = ran; ends = inr (means refl) }

-- a station that has not begun to run
module _ {Q : Type 0} (control : Course → State ControlValue Q → State ControlValue Q → Type 0)
    (terminal : Course → State LineTerminalValue Q → State LineTerminalValue Q → Type 0) (kept : Q)
    (control_begins : (a : ControlValue) → control goes (state a kept) (state a kept))
    (terminal_begins : (a : LineTerminalValue) → terminal goes (state a kept) (state a kept)) where
  pub ran_still : (old : Prepared) (failure : Type 0) → failure
      → PreparedRanLive control terminal old old kept kept failure
  ran_still (prepared.Control a) failure so =
      record { course = goes; ran = control_begins a; ends = inr so }
  ran_still (prepared.Terminal a) failure so =
      record { course = goes; ran = terminal_begins a; ends = inr so }

-- that something has failed means that something else is so
module _ {Q : Type 0} (control : Course → State ControlValue Q → State ControlValue Q → Type 0)
    (terminal : Course → State LineTerminalValue Q → State LineTerminalValue Q → Type 0)
    (kept left : Q) (failure other : Type 0) (means : failure → other) where
  means_so : {C : Type 0} → C ⊎ failure → C ⊎ other
  means_so (inl is) = inl is
  means_so (inr so) = inr (means so)

  pub prepared_ran_so : (old new : Prepared)
      → PreparedRanLive control terminal old new kept left failure
      → PreparedRanLive control terminal old new kept left other
  prepared_ran_so (prepared.Control a) (prepared.Control b) ran =
      record { course = ran.course; ran = ran.ran; ends = means_so (ran.ends) }
  prepared_ran_so (prepared.Terminal a) (prepared.Terminal b) ran =
      record { course = ran.course; ran = ran.ran; ends = means_so (ran.ends) }
  prepared_ran_so (prepared.Control a) (prepared.Terminal b) ran = ran
  prepared_ran_so (prepared.Terminal a) (prepared.Control b) ran = ran

-- a station whose records are only printed
module _ {Q : Type 0} (control : Course → State ControlValue Q → State ControlValue Q → Type 0)
    (terminal : Course → State LineTerminalValue Q → State LineTerminalValue Q → Type 0)
    (kept left : Q) (failure : Type 0) where
  pub prepared_printed : (old new : Prepared)
      → PreparedRanLive control terminal old new kept left failure
      → PreparedRunsPrinted control terminal old failure new
  prepared_printed (prepared.Control a) (prepared.Control b) ran =
      inr (record { first = kept; last = left; ran = ran })
  prepared_printed (prepared.Terminal a) (prepared.Terminal b) ran =
      inr (record { first = kept; last = left; ran = ran })
  prepared_printed (prepared.Control a) (prepared.Terminal b) ran = ran
  prepared_printed (prepared.Terminal a) (prepared.Control b) ran = ran

-- one that has not begun to run
pub printed_still : {Q : Type 0}
    (control : Course → State ControlValue Q → State ControlValue Q → Type 0)
    (terminal : Course → State LineTerminalValue Q → State LineTerminalValue Q → Type 0)
    (old : Prepared) (failure : Type 0) → failure
    → PreparedRunsPrinted control terminal old failure old
printed_still control terminal (prepared.Control a) failure so = inl (so, refl)
printed_still control terminal (prepared.Terminal a) failure so = inl (so, refl)

-- a station whose records are kept in a store
module _ {K V : Type 0}
    (control : Course → State ControlValue (Stored K V) → State ControlValue (Stored K V) → Type 0)
    (terminal : Course → State LineTerminalValue (Stored K V) → State LineTerminalValue (Stored K V)
    → Type 0)
    (control_kept : Bool → Moment ControlValue K → Moment ControlValue K → Type 0)
    (terminal_kept : Bool → Moment LineTerminalValue K → Moment LineTerminalValue K → Type 0)
    (by_control : (course : Course) (first now : State ControlValue (Stored K V))
    → control course first now
    → control_kept (is_fine course) (at first.station first.kept.keeper)
    (at now.station now.kept.keeper))
    (by_terminal : (course : Course) (first now : State LineTerminalValue (Stored K V))
    → terminal course first now
    → terminal_kept (is_fine course) (at first.station first.kept.keeper)
    (at now.station now.kept.keeper))
    (kept left : Stored K V) (failure : Type 0) where
  fails_so : (course : Course) → (course ≡ ended) ⊎ failure → is_fine course ≡ false → failure
  fails_so course (inl is) unfine = let clash : true ≡ false = sym (ap is_fine is) ∙ unfine in absurd cc
  fails_so course (inr so) unfine = so

  pub prepared_kept : (old new : Prepared)
      → PreparedRanLive control terminal old new kept left failure
      → PreparedRunsKept control_kept terminal_kept old kept.keeper failure new
  prepared_kept (prepared.Control a) (prepared.Control b) ran =
      record {
        last = left.keeper;
        fine = is_fine ran.course;
        ran = by_control ran.course (state a kept) (state b left) ran.ran;
        fails = fails_so ran.course ran.ends;
      }
  prepared_kept (prepared.Terminal a) (prepared.Terminal b) ran =
      record {
        last = left.keeper;
        fine = is_fine ran.course;
        ran = by_terminal ran.course (state a kept) (state b left) ran.ran;
        fails = fails_so ran.course ran.ends;
      }
  prepared_kept (prepared.Control a) (prepared.Terminal b) ran = ran
  prepared_kept (prepared.Terminal a) (prepared.Control b) ran = ran

-- a station with a store that was attended so, in a state that is known by another name
pub kept_as : {K V : Type 0}
    (control : Course → State ControlValue (Stored K V) → State ControlValue (Stored K V) → Type 0)
    (terminal : Course → State LineTerminalValue (Stored K V) → State LineTerminalValue (Stored K V)
    → Type 0)
    (control_kept : Bool → Moment ControlValue K → Moment ControlValue K → Type 0)
    (terminal_kept : Bool → Moment LineTerminalValue K → Moment LineTerminalValue K → Type 0)
    → ((course : Course) (first now : State ControlValue (Stored K V))
    → control course first now
    → control_kept (is_fine course) (at first.station first.kept.keeper)
    (at now.station now.kept.keeper))
    → ((course : Course) (first now : State LineTerminalValue (Stored K V))
    → terminal course first now
    → terminal_kept (is_fine course) (at first.station first.kept.keeper)
    (at now.station now.kept.keeper))
    → (kept left : Stored K V) (failure other : Type 0) → (failure → other)
    → (old new now : Prepared) → now ≡ new
    → PreparedRanLive control terminal old new kept left failure
    → PreparedRunsKept control_kept terminal_kept old kept.keeper other now
kept_as control terminal control_kept terminal_kept by_control by_terminal kept left failure other
    means old new now is ran =
    subst
    (λ (p : Prepared). PreparedRunsKept control_kept terminal_kept old kept.keeper other p) (sym is)
    (prepared_kept control terminal control_kept terminal_kept by_control by_terminal kept left other
    old new
    (prepared_ran_so control terminal kept left failure other means old new ran))

-- what failed in a run is what else failed
pub kept_means : {K : Type 0} (control : Bool → Moment ControlValue K → Moment ControlValue K → Type 0)
    (terminal : Bool → Moment LineTerminalValue K → Moment LineTerminalValue K → Type 0)
    (keeper : Keeper K) (failure other : Type 0) → (failure → other) → (old new : Prepared)
    → PreparedRunsKept control terminal old keeper failure new
    → PreparedRunsKept control terminal old keeper other new
kept_means control terminal keeper failure other means (prepared.Control a) (prepared.Control b) ran =
    record {
      last = ran.last;
      fine = ran.fine;
      ran = ran.ran;
      fails = λ is. means (ran.fails is);
    }
kept_means control terminal keeper failure other means (prepared.Terminal a) (prepared.Terminal b)
    ran =
    record {
      last = ran.last;
      fine = ran.fine;
      ran = ran.ran;
      fails = λ is. means (ran.fails is);
    }
kept_means control terminal keeper failure other means (prepared.Control a) (prepared.Terminal b)
    ran =
    ran
kept_means control terminal keeper failure other means (prepared.Terminal a) (prepared.Control b)
    ran =
    ran

or_else : {A B C : Type 0} → (A → B) → C ⊎ A → C ⊎ B
or_else means (inl is) = inl is
or_else means (inr so) = inr (means so)

has_run_means : {S Q : Type 0} (runs : Course → State S Q → State S Q → Type 0)
    (failure other : Type 0) → (failure → other) → (old new : S)
    → HasRunPrinted runs old new failure → HasRunPrinted runs old new other
has_run_means runs failure other means old new (inl (so, same)) = inl (means so, same)
has_run_means runs failure other means old new (inr ran) =
    inr (record {
      first = ran.first;
      last = ran.last;
      ran = record {
        course = ran.ran.course;
        ran = ran.ran.ran;
        ends = or_else means (ran.ran.ends);
      };
    })

pub printed_means : {Q : Type 0}
    (control : Course → State ControlValue Q → State ControlValue Q → Type 0)
    (terminal : Course → State LineTerminalValue Q → State LineTerminalValue Q → Type 0)
    (failure other : Type 0) → (failure → other) → (old new : Prepared)
    → PreparedRunsPrinted control terminal old failure new
    → PreparedRunsPrinted control terminal old other new
printed_means control terminal failure other means (prepared.Control a) (prepared.Control b) ran =
    has_run_means control failure other means a b ran
printed_means control terminal failure other means (prepared.Terminal a) (prepared.Terminal b) ran =
    has_run_means terminal failure other means a b ran
printed_means control terminal failure other means (prepared.Control a) (prepared.Terminal b) ran = ran
printed_means control terminal failure other means (prepared.Terminal a) (prepared.Control b) ran = ran

-- a station that ran so, in a state that is known by another name
pub kept_ended : {K : Type 0} (control : Bool → Moment ControlValue K → Moment ControlValue K → Type 0)
    (terminal : Bool → Moment LineTerminalValue K → Moment LineTerminalValue K → Type 0)
    (keeper : Keeper K) (failure other : Type 0) → (failure → other) → (old new now : Prepared)
    → now ≡ new → PreparedRunsKept control terminal old keeper failure new
    → PreparedRunsKept control terminal old keeper other now
kept_ended control terminal keeper failure other means old new now is ran =
    subst (λ (p : Prepared). PreparedRunsKept control terminal old keeper other p) (sym is)
    (kept_means control terminal keeper failure other means old new ran)

pub printed_ended : {Q : Type 0}
    (control : Course → State ControlValue Q → State ControlValue Q → Type 0)
    (terminal : Course → State LineTerminalValue Q → State LineTerminalValue Q → Type 0)
    (failure other : Type 0) → (failure → other) → (old begun new now : Prepared) → old ≡ begun
    → now ≡ new → PreparedRunsPrinted control terminal old failure new
    → PreparedRunsPrinted control terminal begun other now
printed_ended control terminal failure other means old begun new now as_begun is ran =
    subst (λ (p : Prepared). PreparedRunsPrinted control terminal p other now) as_begun
    (subst (λ (p : Prepared). PreparedRunsPrinted control terminal old other p) (sym is)
    (printed_means control terminal failure other means old new ran))

-- what has succeeded has not failed
pub no_error : {A E : Type 0} (result other : Result A E) (done : A) → other ≡ result
    → other ≡ Ok done → IsErr result → ⊥
no_error result other done is ok failed_so =
    let clash : false ≡ true = subst (λ r. IsErr r) (sym is ∙ ok) failed_so in absurd cc

-- a station that has not begun to run
module _ {K : Type 0} (control : Bool → Moment ControlValue K → Moment ControlValue K → Type 0)
    (terminal : Bool → Moment LineTerminalValue K → Moment LineTerminalValue K → Type 0)
    (control_begins : (now : Moment ControlValue K) → control true now now)
    (terminal_begins : (now : Moment LineTerminalValue K) → terminal true now now) where
  pub kept_still : (old : Prepared) (keeper : Keeper K) (failure : Type 0)
      → PreparedRunsKept control terminal old keeper failure old
  kept_still (prepared.Control a) keeper failure =
      record {
        last = keeper;
        fine = true;
        ran = control_begins (at a keeper);
        fails = λ is. let clash : true ≡ false = is in absurd cc;
      }
  kept_still (prepared.Terminal a) keeper failure =
      record {
        last = keeper;
        fine = true;
        ran = terminal_begins (at a keeper);
        fails = λ is. let clash : true ≡ false = is in absurd cc;
      }
