-- The settings of a station.
use Rattle.std.specs.Prelude.{ℕ, ◌≤◌, if◌then◌else◌, Result, Ok, Err}
use Rattle.bsc_block.specs.Format.{FormatValue, IsFormat, is_within, format_of}
use Rattle.bsc_block.specs.declared.FormatError.{FormatError}
use Rattle.bsc_block.specs.declared.FormatError.TheVariants as f
use Rattle.bsc_bid.specs.declared.limits.TheConstants.{MAX_TRIES, MAX_WAITS}
use Rattle.bsc_bid.specs.declared.setup.SettingError.{SettingError}
use Rattle.bsc_bid.specs.declared.setup.SettingError.TheVariants.{Full, BlockChars, Tries, Waits}

-- How records become blocks, the limit of failures in a row, and the limit of WACKs.
pub record SetupValue : Type 0 where
  pub format : FormatValue
  pub tries : ℕ
  pub waits : ℕ

-- The settings are within their limits.
pub record IsSetup (s : SetupValue) : Type 0 where
  pub format : IsFormat s.format
  pub tries_least : 1 ≤ s.tries
  pub tries_most : s.tries ≤ MAX_TRIES
  pub waits_least : 1 ≤ s.waits
  pub waits_most : s.waits ≤ MAX_WAITS

-- The setting that is wrong if the format is.
abbrev pub setting_error : FormatError → SettingError
setting_error f.Full = Full
setting_error f.BlockChars = BlockChars

-- The settings of a format and two limits, or the first of these that is out of range.
abbrev pub with_limits : Result FormatValue FormatError → ℕ → ℕ → Result SetupValue SettingError
with_limits (Err e) tries waits = Err (setting_error e)
with_limits (Ok format) tries waits =
    if is_within 1 MAX_TRIES tries
    then (if is_within 1 MAX_WAITS waits
    then Ok (record { format = format; tries = tries; waits = waits })
    else Err Waits)
    else Err Tries

-- The settings of four numbers, or the first of them that is out of range.
abbrev pub setup_of : ℕ → ℕ → ℕ → ℕ → Result SetupValue SettingError
setup_of full block_chars tries waits = with_limits (format_of full block_chars) tries waits
