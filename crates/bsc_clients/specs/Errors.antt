-- Why a station is not fed.
use Rattle.std.specs.Prelude.{⊤, ◌≡◌, ℕ, List, true}
use Rattle.bsc_text.specs.declared.input.InputError.{InputError}
use Rattle.bsc_text.specs.declared.input.InputError.TheVariants as input
use Rattle.bsc_text.specs.declared.error.PrintError.{PrintError}
use Rattle.bsc_text.specs.declared.error.PrintError.TheVariants as print
use Rattle.bsc_clients.specs.Commands.{has_feed, joined}
use Rattle.bsc_clients.specs.declared.command.error.FeedError.{FeedError}
use Rattle.bsc_clients.specs.declared.command.error.FeedError.TheVariants.{NotOneLine, Closed}
use Rattle.bsc_clients.specs.declared.command.error.FeedError.TheVariants.{Refused, TooLong, Input}
use Rattle.bsc_clients.specs.declared.command.error.FeedError.TheVariants.{Output, Memory, Address}
use Rattle.bsc_clients.specs.declared.command.error.FeedError.TheVariants.{NobodyThere, Sockets}
use Rattle.bsc_clients.specs.declared.command.error.FeedError.TheVariants.{NotPermitted}

-- The error for a line that is not printed.
abbrev pub print_error : PrintError → FeedError
print_error print.Output = Output
print_error print.Memory = Memory

-- The error for a line of the station that could not be read.
abbrev pub heard_error : InputError → FeedError
heard_error input.TooLong = Closed
heard_error (input.Device why) = Closed
heard_error input.Memory = Memory

-- The error for a line of the input that could not be read.
abbrev pub input_error : InputError → FeedError
input_error input.TooLong = TooLong
input_error (input.Device why) = Input
input_error input.Memory = Memory

-- These words ask for nothing: together they have a line feed, or memory is refused.
abbrev pub IsGivenError : List (List ℕ) → FeedError → Type 0
IsGivenError words NotOneLine = has_feed (joined words) ≡ true
IsGivenError words Memory = ⊤
IsGivenError words _ = ⊥

-- A line of the station was not printed.
abbrev pub IsHeardError : FeedError → Type 0
IsHeardError Closed = ⊤
IsHeardError Output = ⊤
IsHeardError Memory = ⊤
IsHeardError _ = ⊥

-- A command was not done.
abbrev pub IsAnswerError : FeedError → Type 0
IsAnswerError Refused = ⊤
IsAnswerError error = IsHeardError error

-- A line of the input was not read.
abbrev pub IsInputError : FeedError → Type 0
IsInputError TooLong = ⊤
IsInputError Input = ⊤
IsInputError Memory = ⊤
IsInputError _ = ⊥

-- A line of the input was not read, or the command of it was not done.
abbrev pub IsLineError : FeedError → Type 0
IsLineError TooLong = ⊤
IsLineError Input = ⊤
IsLineError error = IsAnswerError error

-- A station was not fed with what these words ask for.
abbrev pub IsFeedError : List (List ℕ) → FeedError → Type 0
IsFeedError words NotOneLine = has_feed (joined words) ≡ true
IsFeedError words error = IsLineError error

-- A station could not be reached.
abbrev pub IsReachError : FeedError → Type 0
IsReachError Address = ⊤
IsReachError NotPermitted = ⊤
IsReachError NobodyThere = ⊤
IsReachError Sockets = ⊤
IsReachError Memory = ⊤
IsReachError _ = ⊥
