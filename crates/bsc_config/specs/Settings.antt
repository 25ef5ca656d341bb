-- The contents of a document: the settings, terminals and poll list, or its first fault.
use Rattle.std.specs.Prelude.{ℕ, List, Result, Ok}
use Rattle.toml.specs.Data.{Members}
use Rattle.bsc_bid.specs.Setup.{SetupValue}
use Rattle.bsc_bid.specs.Terminal.{TerminalValue}
use Rattle.bsc_config.specs.Faults.{Fault, ◌>>=◌}
use Rattle.bsc_config.specs.Checks.{known_keys, keys_present}
use Rattle.bsc_config.specs.Numbers.{version_in, setup_in, poll_list_in}
use Rattle.bsc_config.specs.Terminals.{terminals_in}

-- The parts of a line: the settings, terminals and poll list.
pub record ConfigValue : Type 0 where
  pub setup : SetupValue
  pub terminals : List TerminalValue
  pub poll_list : List ℕ

-- The configuration with these parts.
abbrev pub config_of : SetupValue → List TerminalValue → List ℕ → ConfigValue
config_of setup terminals poll_list =
    record { setup = setup; terminals = terminals; poll_list = poll_list }

-- The values of a document, read in the order of the keys.
abbrev pub values_in : Members → Result ConfigValue Fault
values_in document = do
  version ← version_in document
  setup ← setup_in document
  poll_list ← poll_list_in document
  terminals ← terminals_in version document
  Ok (config_of setup terminals poll_list)

-- The contents of a document: its keys are checked, first for unknown and then for missing ones,
-- and then its values are read.
abbrev pub settings_in : Members → Result ConfigValue Fault
settings_in document = do
  known ← known_keys document
  present ← keys_present document
  values_in document
