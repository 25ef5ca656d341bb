-- The version, the settings and the poll list of a document.
use Rattle.std.specs.Prelude.{ℕ, List, Option, Some, None, Result, Ok, option_map}
use Rattle.std.specs.Prelude.{if◌then◌else◌, nat_eq}
use Rattle.toml.specs.Data.{Data, Members}
use Rattle.bsc_block.specs.declared.limits.TheConstants.{MAX_FULL, MIN_BLOCK_CHARS}
use Rattle.bsc_block.specs.declared.limits.TheConstants.{MAX_BLOCK_CHARS}
use Rattle.bsc_bid.specs.declared.limits.TheConstants.{MAX_TRIES, MAX_WAITS}
use Rattle.bsc_bid.specs.Setup.{SetupValue}
use Rattle.bsc_config.specs.declared.key.Key.{Key}
use Rattle.bsc_config.specs.declared.key.Key.TheVariants.{Version, Full, BlockChars, Tries, Waits}
use Rattle.bsc_config.specs.declared.key.Key.TheVariants.{PollList}
use Rattle.bsc_config.specs.declared.values.Version.{Version as VersionValue}
use Rattle.bsc_config.specs.declared.values.Version.TheVariants.{One, Two}
use Rattle.bsc_config.specs.Faults.{Fault, ◌>>=◌}
use Rattle.bsc_config.specs.Tables.{value_at, required}
use Rattle.bsc_config.specs.Values.{whole_number, list_in, or_wrong}

-- The number from `least` to `most` in a value, or `absent` if there is no value.
abbrev pub number_in : Key → ℕ → ℕ → ℕ → Option Data → Result ℕ Fault
number_in key least most absent None = Ok absent
number_in key least most absent (Some value) = or_wrong key (whole_number least most value)

-- The number at a key, from `least` to `most`, or `absent` if the key is absent.
abbrev pub number_at : Key → ℕ → ℕ → ℕ → Members → Result ℕ Fault
number_at key least most absent document = number_in key least most absent (value_at key document)

-- The settings with these numbers.
abbrev pub setup_of_numbers : ℕ → ℕ → ℕ → ℕ → SetupValue
setup_of_numbers full block_chars tries waits = record {
  format = record { full = full; block_chars = block_chars };
  tries = tries;
  waits = waits;
}

-- The settings of a document.
abbrev pub setup_in : Members → Result SetupValue Fault
setup_in document = do
  full ← number_at Full 1 MAX_FULL 80 document
  block_chars ← number_at BlockChars MIN_BLOCK_CHARS MAX_BLOCK_CHARS MAX_BLOCK_CHARS document
  tries ← number_at Tries 1 MAX_TRIES 3 document
  waits ← number_at Waits 1 MAX_WAITS 10 document
  Ok (setup_of_numbers full block_chars tries waits)

-- The version with this number: version one for 1, otherwise version two.
abbrev pub version_of : ℕ → VersionValue
version_of n = if nat_eq n 1 then One else Two

-- The version of a configuration: 1 or 2.
abbrev pub version_in : Members → Result VersionValue Fault
version_in document = do
  value ← required Version document
  or_wrong Version (option_map version_of (whole_number 1 2 value))

-- The poll list: whole numbers from 0 to 255.
abbrev pub poll_list_in : Members → Result (List ℕ) Fault
poll_list_in document = do
  value ← required PollList document
  or_wrong PollList (list_in (whole_number 0 255) value)
