-- The settings that C gives.
use Rattle.std.specs.Prelude.{Result, Ok, Err}
use Rattle.bsc_bid.specs.Setup.{SetupValue, setup_of}
use Rattle.bsc_bid.specs.declared.setup.SettingError.{SettingError}
use Rattle.bsc_embed.specs.declared.interface.fault.Fault.{Fault}
use Rattle.bsc_embed.specs.declared.interface.settings.Settings.{Settings}
use Rattle.bsc_embed.specs.FromFaults.{setting_fault}

-- The settings, or the fault that the first wrong one of them is.
abbrev pub as_setup : Result SetupValue SettingError → Result SetupValue Fault
as_setup (Ok setup) = Ok setup
as_setup (Err e) = Err (setting_fault e)

abbrev pub setup_in : Settings → Result SetupValue Fault
setup_in s = as_setup (setup_of s.full s.block_chars s.tries s.waits)
