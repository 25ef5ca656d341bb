-- The effect and the output of a run of a script, and of a run that only checks its texts; and what
-- each error of a run says.
use Rattle.std.specs.Prelude.{◌≡◌, ◌⊎◌, ℕ, List, Bool, true, false, length, Option, Result, Ok, Err}
use Rattle.std.specs.Prelude.{codes, ◌||◌, None, Some, if◌then◌else◌}
use Rattle.bsc_text.specs.declared.progress.counts.Work.{Work}
use Rattle.bsc_text.specs.declared.progress.counts.Work.TheVariants.{Events}
use Rattle.std.specs.Io.KnownBytes.{Keeps}
use Rattle.bsc_text.specs.InputTexts.{IsReadError, IsTextAt}
use Rattle.bsc_text.specs.declared.texts.TextError.{TextError}
use Rattle.bsc_carrier.specs.Cable.{CableValue}
use Rattle.bsc_config.specs.Answers.{IsRefusedFor, Says}
use Rattle.bsc_config.specs.Settings.{ConfigValue}
use Rattle.bsc_config.specs.declared.error.ConfigError.{ConfigError}
use Rattle.bsc_config.specs.Actions.{NumberedEvent}
use Rattle.bsc_config.specs.Script.{events_of}
use Rattle.bsc_config.specs.declared.script.script.ScriptError.{ScriptError}
use Rattle.bsc_config.specs.declared.script.script.ScriptError.TheVariants.{NotAnEvent}
use Rattle.bsc_run.specs.Causes.{IsScriptEnded}
use Rattle.bsc_run.specs.Crossing.{Streams, connection_count}
use Rattle.bsc_run.specs.Faults.{TellsLine}
use Rattle.bsc_run.specs.Plays.{Held, holding}
use Rattle.bsc_run.specs.Runs.{RunsScript}
use Rattle.bsc_run.specs.declared.error.RunError.{RunError}
use Rattle.bsc_run.specs.declared.error.RunError.TheVariants.{Refused}
use Rattle.bsc_run.specs.declared.running.RunWords.{RunWords}
use Rattle.bsc_run.specs.declared.running_error.RunningError.{RunningError}
use Rattle.bsc_run.specs.declared.running_error.RunningError.TheVariants.{BothStandardInput, Text}
use Rattle.bsc_run.specs.declared.running_error.RunningError.TheVariants.{Config, Script, Sockets}
use Rattle.bsc_run.specs.declared.running_error.RunningError.TheVariants.{Run, Memory}

-- The paths of a configuration and of a script, and what is left of standard input.
pub record TextPaths : Type 0 where
  pub config : List ℕ
  pub script : List ℕ
  pub input : Option (List ℕ)

-- The paths of the words of a run, with what is left of standard input.
abbrev pub paths_of : RunWords → Option (List ℕ) → TextPaths
paths_of words input =
    record { config = words.config.now; script = words.script.now; input = input }

-- These are the texts at the two paths.
pub record AreTexts (paths : TextPaths) (config script : List ℕ) : Type 0 where
  pub config_is : IsTextAt paths.config paths.input config
  pub script_is : IsTextAt paths.script paths.input script

-- The texts at the two paths are a configuration and a script with these contents.
pub record AreRead (paths : TextPaths) (config : ConfigValue) (steps : List NumberedEvent)
    : Type 0 where
  pub config_text : List ℕ
  pub script_text : List ℕ
  pub texts : AreTexts paths config_text script_text
  pub says : Says config_text config
  pub events : events_of script_text ≡ Ok steps

-- Both texts were read, and nothing was printed.
pub record IsChecked (paths : TextPaths) (held holds : Held) : Type 0 where
  pub config : ConfigValue
  pub steps : List NumberedEvent
  pub read : AreRead paths config steps
  pub nothing : Keeps held.out holds.out

-- The configuration was read, and the script could not be.
pub record IsScriptUnread (paths : TextPaths) (error : TextError) : Type 0 where
  pub config_text : List ℕ
  pub config_is : IsTextAt paths.config paths.input config_text
  pub unread : IsReadError paths.script paths.input error

-- One of the two texts could not be read: the configuration, or after it the script.
abbrev pub IsUnread : TextPaths → TextError → Type 0
IsUnread paths error = IsReadError paths.config paths.input error ⊎ IsScriptUnread paths error

-- What an error says of texts that could not both be read.
abbrev pub HasNoTexts : RunningError → TextPaths → Type 0
HasNoTexts BothStandardInput paths = (paths.config ≡ codes "-") × (paths.script ≡ codes "-")
HasNoTexts (Text error) paths = IsUnread paths error
HasNoTexts Memory paths = Unit {0}
HasNoTexts error paths = ⊥

-- Both texts were read, and the configuration is refused for this reason.
pub record IsConfigRefused (paths : TextPaths) (error : ConfigError) : Type 0 where
  pub config_text : List ℕ
  pub script_text : List ℕ
  pub texts : AreTexts paths config_text script_text
  pub refused : IsRefusedFor config_text error

-- Both texts were read, the first is a configuration, and the line with the number that the error
-- tells is the first of the second that is neither skipped nor an event.
pub record IsScriptRefused (paths : TextPaths) (error : ScriptError) : Type 0 where
  pub config_text : List ℕ
  pub script_text : List ℕ
  pub texts : AreTexts paths config_text script_text
  pub config : ConfigValue
  pub says : Says config_text config
  pub wrong : (n : ℕ) → error ≡ NotAnEvent n → events_of script_text ≡ Err n

-- `tracing` is whether a trace is written.
module _ {S : Type 0} (streams : Streams S) (tracing : Bool) where
  -- The events were run on a new line with the configuration, over a cable with a connection for
  -- each terminal: all of them, or up to the first that is refused. The output of the run and its
  -- trace were appended: what the writers hold went from `held` to `holds`.
  pub record RunsOnCable (config : ConfigValue) (steps : List NumberedEvent)
      (result : Result (Unit {0}) RunError) (held holds : Held) : Type 0 where
    pub before : CableValue S
    pub after : CableValue S
    pub connections : connection_count before ≡ length config.terminals
    pub runs : RunsScript streams tracing config steps (record { cable = before; held = held })
        result (record { cable = after; held = holds })

  -- Both texts were read, and the events were run.
  pub record HasRun (paths : TextPaths) (result : Result (Unit {0}) RunError)
      (held holds : Held) : Type 0 where
    pub config : ConfigValue
    pub steps : List NumberedEvent
    pub read : AreRead paths config steps
    pub ran : RunsOnCable config steps result held holds

  -- The run reached its end, or only checked its texts.
  abbrev pub IsRunDone : Bool → TextPaths → Held → Held → Type 0
  IsRunDone true paths held holds = IsChecked paths held holds
  IsRunDone false paths held holds = HasRun paths (Ok tt) held holds

  -- The events were run on a new line with the configuration, over a cable with a connection for
  -- each terminal, and this error ended the run, for its cause. A socket fault tells the line of an
  -- event for which octets cross the cable, which is faulty now. What the writers hold went from
  -- `held` to `holds`.
  pub record IsBrokenOff (config : ConfigValue) (steps : List NumberedEvent) (error : RunError)
      (held holds : Held) : Type 0 where
    pub before : CableValue S
    pub after : CableValue S
    pub connections : connection_count before ≡ length config.terminals
    pub socket : TellsLine steps after.fault (Err error)
    pub cause : IsScriptEnded streams tracing config steps
        (record { cable = before; held = held }) error (record { cable = after; held = holds })

  -- What an error says that ended the run of a script. If an event was refused, the events before
  -- it were run and the report was printed. After any other error there is no report, and the error
  -- has a cause.
  abbrev pub HasStopped : RunningError → ConfigValue → List NumberedEvent → Held → Held
      → Type 0
  HasStopped (Run (Refused line why)) config steps held holds =
      RunsOnCable config steps (Err (Refused line why)) held holds
  HasStopped (Run error) config steps held holds = IsBrokenOff config steps error held holds
  HasStopped Sockets config steps held holds = Unit {0}
  HasStopped Memory config steps held holds = Unit {0}
  HasStopped error config steps held holds = ⊥

  -- Both texts were read, and this error ended the run of the events, for its cause. The trace went
  -- from that of `held` to `traced`.
  pub record HasBrokenOff (paths : TextPaths) (error : RunError) (held : Held)
      (traced : Option (List ℕ)) : Type 0 where
    pub config : ConfigValue
    pub steps : List NumberedEvent
    pub read : AreRead paths config steps
    pub printed : Option (List ℕ)
    pub broke : IsBrokenOff config steps error held (holding printed traced)

  -- What an error of a run says. The texts are read in order, then the configuration is checked,
  -- and then the script; only then, and only if more is wanted than a check, events are run.
  abbrev pub HasFailed : RunningError → Bool → TextPaths → Held → Held → Type 0
  HasFailed BothStandardInput check paths held holds = HasNoTexts BothStandardInput paths
  HasFailed (Text error) check paths held holds = HasNoTexts (Text error) paths
  HasFailed (Config error) check paths held holds = IsConfigRefused paths error
  HasFailed (Script error) check paths held holds = IsScriptRefused paths error
  HasFailed Sockets check paths held holds = check ≡ false
  HasFailed (Run (Refused line why)) check paths held holds =
      (check ≡ false) × HasRun paths (Err (Refused line why)) held holds
  HasFailed (Run error) check paths held holds =
      (check ≡ false) × HasBrokenOff paths error held holds.trace
  HasFailed Memory check paths held holds = Unit {0}

-- Of what work a run shows the progress: of its events, or of none.
abbrev pub progress_in : Bool → Bool → Option Work
progress_in trace quiet = if trace || quiet then None else Some Events
