-- The configuration, and then the station.
use Rattle.std.proofs.Common.{ℕ, List, Option, Result, Ok, Err, IfOk, IfErr, inr}
use Rattle.bsc_options.specs.Words.{WordsValue}
use Rattle.bsc_config.specs.Answers.{IsRefusedFor}
use Rattle.bsc_config.specs.Settings.{ConfigValue}
use Rattle.bsc_config.specs.declared.error.ConfigError.{ConfigError}
use Rattle.bsc_config.specs.declared.error.ConfigError.TheVariants as config
use Rattle.bsc_text.specs.InputTexts.{IsTextAt}
use Rattle.bsc_bid.specs.declared.speaker.Speaker.{Speaker}
use Rattle.bsc_attending.specs.Errors.{config_error}
use Rattle.bsc_attending.specs.Preparing.{HasNoConfig, HasNoStation, IsPrepared, IsStationOf}
use Rattle.bsc_attending.specs.Preparing.{IsUnprepared, ReadsConfig, config_path, offers_in}
use Rattle.bsc_attending.specs.declared.error.AttendingError.{AttendingError}
use Rattle.bsc_attending.specs.declared.preparing.Prepared.{Prepared}

-- a text that was read, and is refused
pub no_config : (path : List ℕ) (input : Option (List ℕ)) (text : List ℕ)
    → IsTextAt path input text → (error : ConfigError) → IsRefusedFor text error
    → HasNoConfig path input (config_error error)
no_config path input text is config.Memory refused = tt
no_config path input text is error refused = (text, is, refused)

module _ (w : WordsValue) (speaker : Speaker) (peers : ℕ) (input middle : Option (List ℕ))
    (config : ConfigValue) (reads : ReadsConfig (config_path w) input middle config) where
  -- the station of the configuration was prepared
  pub is_prepared : (after : Option (List ℕ)) (result : Result Prepared AttendingError)
      → IfOk result (IsStationOf config speaker (offers_in w) middle after)
      → IfOk result (IsPrepared w speaker input after)
  is_prepared after (Ok prepared) station =
      record { config = config; middle = middle; reads = reads; station = station }
  is_prepared after (Err error) station = tt

  -- the station of the configuration is refused
  pub is_unprepared : (result : Result Prepared AttendingError)
      → IfErr result (HasNoStation config speaker peers (offers_in w) middle)
      → IfErr result (IsUnprepared w speaker peers input)
  is_unprepared (Ok prepared) refused = tt
  is_unprepared (Err error) refused =
      inr (record { config = config; middle = middle; reads = reads; refused = refused })
