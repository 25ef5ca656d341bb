-- The errors of the work on a store.
use Rattle.bsc_config.specs.declared.error.ConfigError.{ConfigError}
use Rattle.bsc_config.specs.declared.error.ConfigError.TheVariants as config
use Rattle.bsc_text.specs.declared.texts.TextError.{TextError}
use Rattle.bsc_text.specs.declared.texts.TextError.TheVariants as text
use Rattle.bsc_spool.specs.declared.fault.StoreFault.{StoreFault}
use Rattle.bsc_spool.specs.declared.fault.StoreFault.TheVariants as fault
use Rattle.bsc_text.specs.declared.error.PrintError.{PrintError}
use Rattle.bsc_text.specs.declared.error.PrintError.TheVariants as print
use Rattle.bsc_storing.specs.declared.error.StoringError.{StoringError}
use Rattle.bsc_storing.specs.declared.error.StoringError.TheVariants as storing

-- The error for a text that could not be read. Out of memory is always `Memory`.
abbrev pub text_error : TextError → StoringError
text_error text.Memory = storing.Memory
text_error error = storing.Text error

-- The error for a configuration that is refused.
abbrev pub config_error : ConfigError → StoringError
config_error config.Memory = storing.Memory
config_error error = storing.Config error

-- The error for a store that is refused or fails, and for the other one of two.
abbrev pub store_error : StoreFault → StoringError
store_error fault.OutOfMemory = storing.Memory
store_error error = storing.Store error

abbrev pub other_error : StoreFault → StoringError
other_error fault.OutOfMemory = storing.Memory
other_error error = storing.Other error

-- The error for output that failed.
abbrev pub print_error : PrintError → StoringError
print_error print.Output = storing.Output
print_error print.Memory = storing.Memory

-- The error for the same work with both stores exchanged.
abbrev pub exchanged : StoringError → StoringError
exchanged (storing.Store fault) = storing.Other fault
exchanged (storing.Other fault) = storing.Store fault
exchanged error = error
