-- What a run of events on new connections fails with says how far it came.
use Rattle.std.proofs.Common.{◌≡◌, Bool, List, Err, length, rules}
use Rattle.std.proofs.lemmas.Result.{err_from_is_err_and}
use Rattle.bsc_carrier.specs.Cable.{CableValue}
use Rattle.bsc_config.specs.Settings.{ConfigValue}
use Rattle.bsc_config.specs.Actions.{NumberedEvent}
use Rattle.bsc_run.specs.Causes.{IsScriptEnded}
use Rattle.bsc_run.specs.Crossing.{Streams, connection_count}
use Rattle.bsc_run.specs.Faults.{TellsLine}
use Rattle.bsc_run.specs.Plays.{Held, WhereWhole}
use Rattle.bsc_run.specs.Runs.{RunsScript}
use Rattle.bsc_run.specs.declared.error.RunError.{RunError}
use Rattle.bsc_run.specs.declared.error.RunError.TheVariants as run
use Rattle.bsc_run.specs.Errors.{run_error}
use Rattle.bsc_run.specs.Running.{HasStopped}
use Rattle.bsc_run.proofs.running.run_on_cable.Goals as goal

stopped : {S : Type 0} (streams : Streams S) (tracing : Bool) (config : ConfigValue)
    (steps : List NumberedEvent) (before after : CableValue S) (held holds : Held)
    (error : RunError) → connection_count before ≡ length config.terminals
    → TellsLine steps after.fault (Err error)
    → IsScriptEnded streams tracing config steps (record { cable = before; held = held }) error
    (record { cable = after; held = holds })
    → WhereWhole (Err error) (RunsScript streams tracing config steps
    (record { cable = before; held = held }) (Err error) (record { cable = after; held = holds }))
    → HasStopped streams tracing (run_error error) config steps held holds
stopped streams tracing config steps before after held holds run.Memory n s c w = tt
stopped streams tracing config steps before after held holds (run.Refused line why) n s c w =
    record { before = before; after = after; connections = n; runs = w }
stopped streams tracing config steps before after held holds run.Output n s c w =
    record { before = before; after = after; connections = n; socket = s; cause = c }
stopped streams tracing config steps before after held holds (run.Socket line) n s c w =
    record { before = before; after = after; connections = n; socket = s; cause = c }

pub returns-in_err-run_line-clause-stopped : goal.returns-in_err-run_line-clause-stopped
returns-in_err-run_line-clause-stopped g c =
    let p = err_from_is_err_and c.from_residual-in_err-run_line.result
    c.from_residual-in_err-run_line.ensures.1 in
    rw (p.1, p.2) (stopped _ _ _ _ _ _ _ _ _ (search rules) c.in_err-run_line.ensures.socket
    c.in_err-run_line.ensures.cause c.in_err-run_line.ensures.whole)
