-- The refusal of a line with the contents of a document.
use Rattle.std.specs.Prelude.{◌≡◌}
use Rattle.bsc_bid.specs.declared.refusal.SetupError.{SetupError}
use Rattle.bsc_bid.specs.declared.refusal.SetupError.TheVariants as setup
use Rattle.bsc_bid.specs.Refusals.{IsRefused}
use Rattle.bsc_config.specs.declared.error.ConfigError.{ConfigError}
use Rattle.bsc_config.specs.declared.error.ConfigError.TheVariants.{NoTerminal, TooManyTerminals}
use Rattle.bsc_config.specs.declared.error.ConfigError.TheVariants.{SameAddresses, EmptyPollList}
use Rattle.bsc_config.specs.declared.error.ConfigError.TheVariants.{PollListEntry, Memory}
use Rattle.bsc_config.specs.Settings.{ConfigValue}

-- The error of a configuration for a refusal of a control station.
abbrev pub refusal : SetupError → ConfigError
refusal setup.NoTerminal = NoTerminal
refusal setup.TooMany = TooManyTerminals
refusal (setup.SameAddress first second) = SameAddresses first second
refusal setup.EmptyPollList = EmptyPollList
refusal (setup.PollList place) = PollListEntry place
refusal setup.Memory = Memory

-- A control station with these terminals and this poll list is refused for this reason.
pub record IsRefusal (config : ConfigValue) (error : ConfigError) : Type 0 where
  pub reason : SetupError
  pub same : error ≡ refusal reason
  pub refused : IsRefused config.terminals config.poll_list reason
