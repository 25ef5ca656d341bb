-- The lines of a client: its octets, divided at line feeds.
use Rattle.std.specs.Prelude.{◌≡◌, ◌≤◌, ℕ, nat_le, if◌then◌else◌, Bool, true, false}
use Rattle.std.specs.Prelude.{List, [], ◌∷◌, ◌++◌, length, take, drop, Option, Some, None}
use Rattle.std.specs.List.{AllByRecursion, flat_map}
use Rattle.std.specs.Str.Lines.{strip_carriage_return}
use Rattle.bsc_text.specs.Reading.{HasNoFeed}
use Rattle.bsc_feed.specs.declared.limits.TheConstants.{KEPT, MAX_LINE}

-- A line with its line feed.
abbrev pub with_feed : List ℕ → List ℕ
with_feed line = line ++ 10 ∷ []

-- These octets are these lines, each with its line feed, and then a half line, which has none.
pub record AreLines (octets : List ℕ) (lines : List (List ℕ)) (half : List ℕ) : Type 0 where
  pub whole : octets ≡ flat_map with_feed lines ++ half
  pub feedless : AllByRecursion HasNoFeed lines
  pub half_feedless : HasNoFeed half

-- What is kept of a line: its first 513 octets.
abbrev pub kept_of : List ℕ → List ℕ
kept_of line = take KEPT line

-- What a line says: its octets without one carriage return at their end. A line of more than 512
-- octets says nothing.
abbrev pub line_of : List ℕ → Option (List ℕ)
line_of line = if nat_le (length line) MAX_LINE then Some (strip_carriage_return line) else None

-- What is kept of the octets since the last line feed, and of the last line.
pub record LinesValue : Type 0 where
  pub begun : List ℕ
  pub ended : List ℕ

-- What taking octets of a piece returns, how many and whether they ended a line, and what is kept
-- after it.
abbrev pub Fed : LinesValue → List ℕ → ℕ × Bool → LinesValue → Type 0
-- The octets taken are the rest of a line and its line feed.
Fed old piece (taken, true) new =
    (part : List ℕ) × HasNoFeed part × (taken ≤ length piece)
    × (take taken piece ≡ with_feed part)
    × (new ≡ record { begun = []; ended = kept_of (old.begun ++ part) })
-- The whole piece is taken, and has no line feed.
Fed old piece (taken, false) new =
    (taken ≡ length piece) × HasNoFeed piece
    × (new ≡ record { begun = kept_of (old.begun ++ piece); ended = old.ended })

-- Fed these pieces in turn, these lines end, of which this is kept. What a feed leaves of its piece
-- is the next piece.
pub data Divides : LinesValue → List (List ℕ) → List (List ℕ) → LinesValue → Type 0 where
  ended : {held : LinesValue} → Divides held [] [] held
  goes_on : {old mid new : LinesValue} {piece : List ℕ} {pieces lines : List (List ℕ)} (taken : ℕ)
      → Fed old piece (taken, false) mid → Divides mid pieces lines new
      → Divides old (piece ∷ pieces) lines new
  ends_line : {old mid new : LinesValue} {piece : List ℕ} {pieces lines : List (List ℕ)} (taken : ℕ)
      → Fed old piece (taken, true) mid → Divides mid (drop taken piece ∷ pieces) lines new
      → Divides old (piece ∷ pieces) (mid.ended ∷ lines) new
