-- The errors of each kind of work.
use Rattle.std.specs.Prelude.{ℕ}
use Rattle.bsc_text.specs.declared.input.InputError.{InputError}
use Rattle.bsc_text.specs.declared.input.InputError.TheVariants as input
use Rattle.bsc_text.specs.declared.error.PrintError.{PrintError}
use Rattle.bsc_text.specs.declared.error.PrintError.TheVariants as print
use Rattle.bsc_trace.specs.declared.waiting.LineError.{LineError}
use Rattle.bsc_trace.specs.declared.waiting.LineError.TheVariants as waiting
use Rattle.bsc_trace.specs.declared.naming.error.NamingError.{NamingError}
use Rattle.bsc_trace.specs.declared.naming.error.NamingError.TheVariants.{NotHexadecimal}
use Rattle.bsc_trace.specs.declared.naming.error.NamingError.TheVariants.{NotHexadecimalAt}
use Rattle.bsc_trace.specs.declared.naming.error.NamingError.TheVariants.{TooLongAt, Input, Output}
use Rattle.bsc_trace.specs.declared.naming.error.NamingError.TheVariants.{Memory}

-- The error for a failure to print.
abbrev pub print_error : PrintError → NamingError
print_error print.Output = Output
print_error print.Memory = Memory

-- The errors of printing.
abbrev pub IsPrintError : NamingError → Type 0
IsPrintError Output = Unit {0}
IsPrintError Memory = Unit {0}
IsPrintError _ = ⊥

-- The errors of naming one transmission.
abbrev pub IsNameError : NamingError → Type 0
IsNameError NotHexadecimal = Unit {0}
IsNameError error = IsPrintError error

-- The errors of naming one of many lines.
abbrev pub IsWrongOrPrintError : NamingError → Type 0
IsWrongOrPrintError (NotHexadecimalAt line) = Unit {0}
IsWrongOrPrintError error = IsPrintError error

-- The error for the line with this number if it could not be read.
abbrev pub input_error : ℕ → InputError → NamingError
input_error number input.TooLong = TooLongAt number
input_error number (input.Device why) = Input
input_error number input.Memory = Memory

-- The same, or if the output before it could not be flushed.
abbrev pub line_error : ℕ → LineError → NamingError
line_error number (waiting.Input error) = input_error number error
line_error number waiting.Output = Output

-- The errors of naming many lines.
abbrev pub IsLineError : NamingError → Type 0
IsLineError NotHexadecimal = ⊥
IsLineError _ = Unit {0}
