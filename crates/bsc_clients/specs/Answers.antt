-- The lines of a station that are printed.
use Rattle.std.specs.Prelude.{◌≡◌, ℕ, Bool, true, false, if◌then◌else◌, List, [], ◌∷◌, ◌++◌}
use Rattle.std.specs.Prelude.{codes, filter, length, Option, None, Some, IfSome}
use Rattle.std.specs.List.{AllByRecursion, flat_map}
use Rattle.std.specs.Str.{bytes_eq}
use Rattle.std.specs.Io.KnownBytes.{Appends}
use Rattle.bsc_text.specs.InputLines.{parts_of}
use Rattle.bsc_text.specs.Reading.{ReadsLine}
use Rattle.bsc_text.specs.Words.{first_word}
use Rattle.bsc_text.specs.declared.reading.LineEnd.TheVariants.{LineFeed, InputEnd}
use Rattle.bsc_text.specs.Lines.{in_lines}
use Rattle.bsc_clients.specs.declared.command.answers.Kind.{Kind}
use Rattle.bsc_clients.specs.declared.command.answers.Kind.TheVariants.{Done, Refused, News}

-- What a line of a station is, by its first word.
abbrev pub kind_of : List ℕ → Kind
kind_of line =
    if bytes_eq (first_word line) (codes "ok") then Done else
    if bytes_eq (first_word line) (codes "fault") then Refused else News

-- Whether a line is an answer to a command that was done.
abbrev pub is_done : Kind → Bool
is_done Done = true
is_done Refused = false
is_done News = false

-- Whether a line is an answer to a command that was refused.
abbrev pub is_fault : Kind → Bool
is_fault Done = false
is_fault Refused = true
is_fault News = false

-- A line with its line feed.
abbrev pub with_feed : List ℕ → List ℕ
with_feed line = line ++ 10 ∷ []

-- A line as it is printed: each character from space to `~` as it is, any other code escaped, and a
-- line feed.
abbrev pub line_shown : List ℕ → List ℕ
line_shown line = in_lines line ++ 10 ∷ []

-- These lines were printed.
abbrev pub Prints : Option (List ℕ) → Option (List ℕ) → List (List ℕ) → Type 0
Prints old new lines = Appends old new (flat_map line_shown lines)

-- A line of this kind was printed, or none.
abbrev pub PrintsOne : Option Kind → Option (List ℕ) → Option (List ℕ) → Type 0
PrintsOne None old new = Prints old new []
PrintsOne (Some kind) old new =
    (line : List ℕ) × (kind_of line ≡ kind) × Prints old new (line ∷ [])

-- The next line of what was left to hear was heard, it is of this kind, and it was printed. Or none
-- was left, but for a line that has no line feed, and nothing was printed.
abbrev pub HearsOne : Option Kind → Option (List ℕ) → Option (List ℕ) → Option (List ℕ)
    → Option (List ℕ) → Type 0
HearsOne None heard left old new =
    ((part : List ℕ) × ReadsLine heard left InputEnd part) × Prints old new []
HearsOne (Some kind) heard left old new =
    (line : List ℕ) × (kind_of line ≡ kind) × ReadsLine heard left LineFeed line
    × Prints old new (line ∷ [])

-- These parts without the last one.
abbrev pub without_last : List (List ℕ) → List (List ℕ)
without_last [] = []
without_last (part ∷ []) = []
without_last (part ∷ next ∷ parts) = part ∷ without_last (next ∷ parts)

-- The lines of these octets that have a line feed.
abbrev pub whole_lines : List ℕ → List (List ℕ)
whole_lines octets = without_last (parts_of octets)

-- What was printed is what was heard: the first lines of what was left to hear, in order. The
-- others are left.
pub record HearsLines (heard left : List ℕ) (old new : Option (List ℕ)) : Type 0 where
  pub told : List (List ℕ)
  pub whole : parts_of heard ≡ told ++ parts_of left
  pub printed : Prints old new told

-- The same where it is known what was left and what is left.
abbrev pub Hears : Option (List ℕ) → Option (List ℕ) → Option (List ℕ) → Option (List ℕ) → Type 0
Hears None left old new = Unit {0}
Hears (Some heard) None old new = ⊥
Hears (Some heard) (Some left) old new = HearsLines heard left old new

-- None of these lines is a fault.
abbrev pub HasNoFault : List (List ℕ) → Type 0
HasNoFault lines = AllByRecursion (λ line. is_fault (kind_of line) ≡ false) lines

-- How many of these lines are answers to commands that were done.
abbrev pub count_done : List (List ℕ) → ℕ
count_done lines = length (filter (λ line. is_done (kind_of line)) lines)

-- Lines were printed that answer a command: none but the last is an answer, and it is of this kind.
pub record IsAnswer (kind : Kind) (old new : Option (List ℕ)) : Type 0 where
  pub news : List (List ℕ)
  pub last : List ℕ
  pub others : AllByRecursion (λ line. kind_of line ≡ News) news
  pub answers : kind_of last ≡ kind
  pub printed : Prints old new (news ++ last ∷ [])

-- Lines were printed of which none is a fault.
pub record TellsNoFault (old new : Option (List ℕ)) : Type 0 where
  pub told : List (List ℕ)
  pub faultless : HasNoFault told
  pub printed : Prints old new told

-- Lines were printed of which the last one is a fault, and none before it.
pub record EndsInFault (old new : Option (List ℕ)) : Type 0 where
  pub told : List (List ℕ)
  pub last : List ℕ
  pub faultless : HasNoFault told
  pub fault : is_fault (kind_of last) ≡ true
  pub printed : Prints old new (told ++ last ∷ [])

-- All that was left to hear was heard to its end, and each line of it was printed, in order; none
-- is a fault. Nothing is said where it is not known what was left.
abbrev pub HearsAll : Option (List ℕ) → Option (List ℕ) → Option (List ℕ) → Option (List ℕ)
    → Type 0
HearsAll None left old new = Unit {0}
HearsAll (Some octets) left old new =
    (left ≡ Some []) × HasNoFault (whole_lines octets) × Prints old new (whole_lines octets)

-- What was printed is what was heard: all lines of what was left to hear, if a channel is followed,
-- and otherwise the first of them.
abbrev pub HearsTo : Bool → Option (List ℕ) → Option (List ℕ) → Option (List ℕ) → Type 0
HearsTo true heard old new = IfSome heard (λ octets. Prints old new (whole_lines octets))
HearsTo false heard old new = (left : Option (List ℕ)) × Hears heard left old new
