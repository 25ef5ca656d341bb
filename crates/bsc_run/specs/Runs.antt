-- The effect of a run of a script on the line of a configuration, and the text that it prints.
use Rattle.std.specs.Prelude.{◌≡◌, ℕ, Bool, IsTrue, List, length, take, Option, Result}
use Rattle.std.specs.Io.KnownBytes.{Appends}
use Rattle.bsc_bid.specs.declared.way.Way.{Way}
use Rattle.bsc_line_model.specs.Line.{LineValue, IsChannel}
use Rattle.bsc_line_model.specs.Headline.{spooled_on}
use Rattle.bsc_line_model.specs.Kept.{IsNewLine}
use Rattle.bsc_config.specs.Settings.{ConfigValue}
use Rattle.bsc_config.specs.Actions.{NumberedEvent}
use Rattle.bsc_run.specs.declared.error.RunError.{RunError}
use Rattle.bsc_run.specs.Crossing.{Streams}
use Rattle.bsc_run.specs.LineRuns.{script_offers}
use Rattle.bsc_run.specs.Addresses.{addresses_traced}
use Rattle.bsc_run.specs.Plays.{Outside, Runs, holding}

-- The addresses of the terminals are written to the trace, if there is one, and then the events are
-- run on a new line with the configuration. If the line is trusted after them, the
-- records that arrived on a channel, as the report prints them, are the first of those that the
-- accepted events of the script offered on it, in order and each once.
pub record RunsScript {S : Type 0} (streams : Streams S) (tracing : Bool)
    (config : ConfigValue) (steps : List NumberedEvent) (old : Outside S)
    (result : Result (Unit {0}) RunError) (new : Outside S) : Type 0 where
  pub begun : LineValue
  pub ended : LineValue
  pub new_line : IsNewLine config.setup config.terminals config.poll_list begun
  pub told : Option (List ℕ)
  pub addresses : Appends old.held.trace told (addresses_traced tracing config.terminals)
  pub runs : Runs streams tracing steps
      (record {
        line = begun;
        outside = record { cable = old.cable; held = holding old.held.out told };
      }) result (record { line = ended; outside = new })
  pub arrived : (t : ℕ) (way : Way) → IsChannel ended t way → IsTrue ended.trusted
      → spooled_on ended t way ≡ take (length (spooled_on ended t way))
      (script_offers (take (length runs.events) steps) t way)
