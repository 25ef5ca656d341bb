-- The values of the settings in the code.
use Rattle.bsc_config.specs.declared.settings.Settings.{Settings}
use Rattle.bsc_config.specs.Settings.{ConfigValue, config_of}

-- The configuration that the settings in the code stand for.
abbrev pub settings_value : Settings → ConfigValue
settings_value s = config_of s.setup s.terminals.items s.poll_list.items
