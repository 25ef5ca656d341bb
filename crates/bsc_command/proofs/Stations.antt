-- The fault for an error of a station says what the error says.
use Rattle.std.proofs.Common.{ℕ, Bool, true, false, if◌then◌else◌, List, Option, Err, inl, inr}
use Rattle.std.proofs.Common.{subst, sym}
use Rattle.clap.specs.declared.error.kind.ErrorKind.TheVariants as kind
use Rattle.bsc_options.specs.Words.{WordsValue}
use Rattle.bsc_attending.specs.Errors.{IsEarly as IsEarlyAttending}
use Rattle.bsc_attending.specs.Outcomes.{IsAnswer}
use Rattle.bsc_attending.specs.declared.error.AttendingError.{AttendingError}
use Rattle.bsc_attending.specs.declared.error.AttendingError.TheVariants as attending
use Rattle.bsc_options.specs.Errors.{is_conflict, refusal}
use Rattle.bsc_command.specs.declared.fault.Fault.{Fault}
use Rattle.bsc_command.specs.declared.fault.Fault.TheVariants as fault
use Rattle.bsc_command.specs.Faults.{IsAttendingFault, IsEarly, IsStationFault, IsUsageOf}
use Rattle.bsc_command.specs.Program.{HasFailedStation}

-- wrong usage of either kind is a fault of a station
usage_of_station : (b : Bool) (f : Fault)
    → IsUsageOf (if b then kind.ArgumentConflict else kind.InvalidValue) f → IsStationFault f
usage_of_station b (fault.Attending error) p = tt
usage_of_station true f p = inr p
usage_of_station false f p = inl p

-- the fault is one of a station
pub station_fault : (e : AttendingError) (f : Fault) → IsAttendingFault e f → IsStationFault f
station_fault (attending.Options why) f p = usage_of_station (is_conflict (refusal why)) f p
station_fault e f p = subst IsStationFault (sym p) tt

-- it says what the error says
pub station_failed : (w : WordsValue) (input : Option (List ℕ)) (e : AttendingError) (f : Fault)
    → IsAttendingFault e f → IsAnswer w input (Err e) → HasFailedStation f w input
station_failed w input (attending.Options why) (fault.Usage error) p q = (why, p, q)
station_failed w input (attending.Options why) (fault.Attending error) p q = absurd p
station_failed w input (attending.Options why) f p q = tt
station_failed w input e f p q = subst (λ f. HasFailedStation f w input) (sym p) q

-- it comes before anything is printed only if the error does
pub station_early : (e : AttendingError) (f : Fault) → IsAttendingFault e f → IsEarly f
    → IsEarlyAttending e
station_early (attending.Options why) f p q = tt
station_early e f p q = subst IsEarly p q
