-- The errors of drawing.
use Rattle.std.specs.Prelude.{ℕ}
use Rattle.bsc_text.specs.declared.input.InputError.{InputError}
use Rattle.bsc_text.specs.declared.input.InputError.TheVariants as input
use Rattle.bsc_text.specs.declared.error.PrintError.{PrintError}
use Rattle.bsc_text.specs.declared.error.PrintError.TheVariants as print
use Rattle.bsc_trace.specs.declared.waiting.LineError.{LineError}
use Rattle.bsc_trace.specs.declared.waiting.LineError.TheVariants as waiting
use Rattle.bsc_chart.specs.declared.error.ChartError.{ChartError}
use Rattle.bsc_chart.specs.declared.error.ChartError.TheVariants.{TooLongAt, Width}
use Rattle.bsc_chart.specs.declared.error.ChartError.TheVariants.{Forms, Lines, TooMany}
use Rattle.bsc_chart.specs.declared.error.ChartError.TheVariants.{Input, Output, Memory}

-- The error for a failure to print.
abbrev pub print_error : PrintError → ChartError
print_error print.Output = Output
print_error print.Memory = Memory

-- The errors of keeping a row.
abbrev pub IsKeepError : ChartError → Type 0
IsKeepError TooMany = Unit {0}
IsKeepError Memory = Unit {0}
IsKeepError _ = ⊥

-- The errors of writing.
abbrev pub IsEndError : ChartError → Type 0
IsEndError Output = Unit {0}
IsEndError Memory = Unit {0}
IsEndError _ = ⊥

-- The errors of writing or keeping a row.
abbrev pub IsDrawError : ChartError → Type 0
IsDrawError TooMany = Unit {0}
IsDrawError Output = Unit {0}
IsDrawError Memory = Unit {0}
IsDrawError _ = ⊥

-- The error for the line with this number if it could not be read.
abbrev pub input_error : ℕ → InputError → ChartError
input_error number input.TooLong = TooLongAt number
input_error number (input.Device why) = Input why
input_error number input.Memory = Memory

-- The same, or if the rows before it could not be flushed.
abbrev pub line_error : ℕ → LineError → ChartError
line_error number (waiting.Input error) = input_error number error
line_error number waiting.Output = Output

-- The errors of drawing many lines.
abbrev pub IsLineError : ChartError → Type 0
IsLineError Width = ⊥
IsLineError Lines = ⊥
IsLineError Forms = ⊥
IsLineError _ = Unit {0}
