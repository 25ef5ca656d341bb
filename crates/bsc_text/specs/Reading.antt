-- Reading an input line by line. Nothing is said of an input of which is not known what is left.
use Rattle.std.specs.Prelude.{◌≡◌, ◌<◌, ℕ, ◌+◌, ◌==◌, false, List, [], ◌∷◌, ◌++◌, length}
use Rattle.std.specs.Prelude.{Option, Some, None}
use Rattle.std.specs.List.{All}
use Rattle.std.specs.Io.KnownBytes.{Consumes, IsAtEnd}
use Rattle.bsc_text.specs.InputLines.{parts_of}
use Rattle.bsc_text.specs.Parts.{before_octet}
use Rattle.bsc_text.specs.declared.input.TheConstants.{MAX_INPUT}
use Rattle.bsc_text.specs.declared.reading.LineEnd.{LineEnd}
use Rattle.bsc_text.specs.declared.reading.LineEnd.TheVariants.{LineFeed, InputEnd}

-- The first line of what was left of an input was read. If it ends with a line feed, the other
-- lines are left; if it ends with the input, it was the only one.
abbrev pub ReadsLine : Option (List ℕ) → Option (List ℕ) → LineEnd → List ℕ → Type 0
ReadsLine None new end line = Unit {0}
ReadsLine (Some old) None end line = ⊥
ReadsLine (Some old) (Some new) LineFeed line = parts_of old ≡ line ∷ parts_of new
ReadsLine (Some old) (Some new) InputEnd line = (parts_of old ≡ line ∷ []) × (new ≡ [])

-- The list grew by elements of which this is true.
abbrev pub GrowsBy : List ℕ → List ℕ → (List ℕ → Type 0) → Type 0
GrowsBy old new P = (part : List ℕ) × (new ≡ old ++ part) × P part

-- No octet is a line feed.
abbrev pub HasNoFeed : List ℕ → Type 0
HasNoFeed octets = All (λ octet. (octet == 10) ≡ false) octets

-- This part of a line was read, and its line feed or the end of the input, if the line ends there.
abbrev pub ReadsPart : Option (List ℕ) → Option (List ℕ) → Option LineEnd → List ℕ → Type 0
ReadsPart old new (Some LineFeed) part = HasNoFeed part × Consumes old new (part ++ 10 ∷ [])
ReadsPart old new (Some InputEnd) part = (part ≡ []) × IsAtEnd old × Consumes old new []
ReadsPart old new None part = HasNoFeed part × (0 < length part) × Consumes old new part

-- A line that begins with these octets and goes on with what is left has too many octets.
abbrev pub IsTooLongAfter : List ℕ → List ℕ → Type 0
IsTooLongAfter line left = MAX_INPUT < length line + length (before_octet 10 left)
