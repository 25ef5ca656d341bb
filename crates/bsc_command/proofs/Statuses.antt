-- The exit status of a fault.
use Rattle.std.proofs.Common.{◌≡◌}
use Rattle.bsc_attending.specs.declared.error.AttendingError.{AttendingError}
use Rattle.bsc_attending.specs.declared.error.AttendingError.TheVariants as attending
use Rattle.bsc_run.specs.declared.error.RunError.{RunError}
use Rattle.bsc_run.specs.declared.error.RunError.TheVariants as run
use Rattle.bsc_run.specs.declared.running_error.RunningError.{RunningError}
use Rattle.bsc_run.specs.declared.running_error.RunningError.TheVariants as running
use Rattle.bsc_storing.specs.declared.error.StoringError.{StoringError}
use Rattle.bsc_storing.specs.declared.error.StoringError.TheVariants as storing
use Rattle.bsc_command.specs.declared.fault.Fault.{Fault}
use Rattle.bsc_command.specs.declared.fault.Fault.TheVariants as fault
use Rattle.bsc_command.specs.Faults.{attending_status_of, run_status_of, running_status_of}
use Rattle.bsc_command.specs.Faults.{status_of, storing_status_of}

-- No fault has status 0.
run_error_told : (e : RunError) → run_status_of e ≡ 0 → ⊥
run_error_told (run.Refused line why) is = absurd (let e = is in cc)
run_error_told _ is = absurd (let e = is in cc)

running_told : (e : RunningError) → running_status_of e ≡ 0 → ⊥
running_told running.BothStandardInput is = absurd (let e = is in cc)
running_told (running.Run error) is = run_error_told error is
running_told _ is = absurd (let e = is in cc)

attending_told : (e : AttendingError) → attending_status_of e ≡ 0 → ⊥
attending_told (attending.Options error) is = absurd (let e = is in cc)
attending_told (attending.Config error) is = absurd (let e = is in cc)
attending_told attending.InDoubt is = absurd (let e = is in cc)
attending_told attending.Undelivered is = absurd (let e = is in cc)
attending_told attending.NotTrusted is = absurd (let e = is in cc)
attending_told attending.Unprinted is = absurd (let e = is in cc)
attending_told (attending.Unkept error) is = absurd (let e = is in cc)
attending_told _ is = absurd (let e = is in cc)

storing_told : (e : StoringError) → storing_status_of e ≡ 0 → ⊥
storing_told storing.NoTerminal is = absurd (let e = is in cc)
storing_told (storing.Release error) is = absurd (let e = is in cc)
storing_told storing.Apart is = absurd (let e = is in cc)
storing_told _ is = absurd (let e = is in cc)

pub never_zero : (f : Fault) → status_of f ≡ 0 → ⊥
never_zero (fault.Usage text) is = absurd (let e = is in cc)
never_zero (fault.Running error) is = running_told error is
never_zero (fault.Attending error) is = attending_told error is
never_zero (fault.Storing error) is = storing_told error is
never_zero _ is = absurd (let e = is in cc)
