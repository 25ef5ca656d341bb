-- Whole texts, from files or standard input.
use Rattle.std.specs.Prelude.{◌≡◌, ◌≢◌, ◌<◌, ℕ, List, length, Option, IfSome, codes, string_bytes}
use Rattle.bsc_text.specs.declared.input.TheConstants.{MAX_INPUT}
use Rattle.bsc_text.specs.declared.input.InputError.{InputError}
use Rattle.bsc_text.specs.declared.input.InputError.TheVariants as input
use Rattle.bsc_text.specs.declared.texts.TextError.{TextError}
use Rattle.bsc_text.specs.declared.texts.TextError.TheVariants.{InputTooLong, Input, CannotRead}
use Rattle.bsc_text.specs.declared.texts.TextError.TheVariants.{FileTooLong, Memory}

-- The text at a path: all of standard input if the path is `-`. A file may have any text.
abbrev pub IsTextAt : List ℕ → Option (List ℕ) → List ℕ → Type 0
IsTextAt path input text = path ≡ codes "-" → IfSome input (λ octets. text ≡ octets)

-- The error for standard input that could not be read.
abbrev pub input_error : InputError → TextError
input_error input.TooLong = InputTooLong
input_error (input.Device why) = Input
input_error input.Memory = Memory

-- The error for a file that could not be read. It names the path, and why if the file could not be
-- opened or read, unless memory ran out.
abbrev pub IsErrorAt : List ℕ → InputError → TextError → Type 0
IsErrorAt path input.TooLong (FileTooLong named) = string_bytes named ≡ path
IsErrorAt path (input.Device why) (CannotRead named reason) =
    (string_bytes named ≡ path) × (reason ≡ why)
IsErrorAt path error Memory = Unit {0}
IsErrorAt path error _ = ⊥

-- What an error says of the text at a path: that it is standard input, which has too many octets if
-- the error says so, or a file, whose path the error names. Memory may run out in any case.
abbrev pub IsReadError : List ℕ → Option (List ℕ) → TextError → Type 0
IsReadError path input InputTooLong =
    (path ≡ codes "-") × IfSome input (λ octets. MAX_INPUT < length octets)
IsReadError path input Input = path ≡ codes "-"
IsReadError path input (CannotRead named why) = (path ≢ codes "-") × (string_bytes named ≡ path)
IsReadError path input (FileTooLong named) = (path ≢ codes "-") × (string_bytes named ≡ path)
IsReadError path input Memory = Unit {0}
