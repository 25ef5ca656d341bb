-- The errors of a run for those of its parts.
use Rattle.bsc_config.specs.declared.error.ConfigError.{ConfigError}
use Rattle.bsc_config.specs.declared.error.ConfigError.TheVariants as config
use Rattle.bsc_text.specs.declared.texts.TextError.{TextError}
use Rattle.bsc_text.specs.declared.texts.TextError.TheVariants as text
use Rattle.bsc_carrier.specs.declared.loopback.LoopbackError.{LoopbackError}
use Rattle.bsc_carrier.specs.declared.loopback.LoopbackError.TheVariants as loopback
use Rattle.bsc_run.specs.declared.error.RunError.{RunError}
use Rattle.bsc_run.specs.declared.error.RunError.TheVariants as run
use Rattle.bsc_config.specs.declared.script.script.ScriptError.{ScriptError}
use Rattle.bsc_config.specs.declared.script.script.ScriptError.TheVariants as script
use Rattle.bsc_run.specs.declared.running_error.RunningError.{RunningError}
use Rattle.bsc_run.specs.declared.running_error.RunningError.TheVariants.{Text, Config, Script, Run}
use Rattle.bsc_run.specs.declared.running_error.RunningError.TheVariants.{Sockets, Memory}

-- The error for a text that could not be read.
abbrev pub text_error : TextError → RunningError
text_error text.Memory = Memory
text_error error = Text error

-- The error for a configuration that is refused.
abbrev pub config_error : ConfigError → RunningError
config_error config.Memory = Memory
config_error error = Config error

-- The error for a script that is refused.
abbrev pub script_error : ScriptError → RunningError
script_error script.Memory = Memory
script_error error = Script error

-- The error for connections that could not be made.
abbrev pub loopback_error : LoopbackError → RunningError
loopback_error loopback.Sockets = Sockets
loopback_error loopback.Memory = Memory

-- The error for a run that ended before the end of the script.
abbrev pub run_error : RunError → RunningError
run_error run.Memory = Memory
run_error error = Run error

-- The errors that come before a line is made, when nothing has been printed.
abbrev pub IsEarly : RunningError → Type 0
IsEarly (Run error) = ⊥
IsEarly Memory = ⊥
IsEarly _ = Unit {0}
