-- The text of a ladder: a line for each row, which begins with its time. What else is drawn in a
-- line is compared by tests.
use Rattle.std.specs.Prelude.{◌≡◌, ◌||◌, ℕ, ◌-◌, nat_le, Bool, List, [], ◌++◌, Option, length, take}
use Rattle.std.specs.Prelude.{codes}
use Rattle.std.specs.Io.KnownBytes.{Appends}
use Rattle.std.specs.List.{AllPass}
use Rattle.bsc_text.specs.Forms.{is_printable}
use Rattle.bsc_trace.specs.declared.ladder.row.Fate.{Fate}
use Rattle.bsc_trace.specs.declared.ladder.row.Fate.TheVariants.{Sent, Heard, Failed, Turned}
use Rattle.bsc_trace.specs.declared.ladder.row.Fate.TheVariants.{Ignored, Lost, Withheld}

-- Whether an octet is a printable character of ASCII, or belongs to a character that is not of
-- ASCII. A line feed and what a terminal obeys are neither.
abbrev pub is_graphic : ℕ → Bool
is_graphic code = is_printable code || nat_le 128 code

-- One line: graphic characters, and then a line feed.
pub record IsLine (line : List ℕ) : Type 0 where
  pub text : List ℕ
  pub graphic : AllPass is_graphic text
  pub whole : line ≡ text ++ codes "\n"

-- A time at the right of its field of eight characters.
abbrev pub time_text : List ℕ → List ℕ
time_text time = take (8 - length time) (codes "        ") ++ time ++ codes " "

-- One row: the time, and then what happened, up to the end of the line.
pub record IsRow (time row : List ℕ) : Type 0 where
  pub happened : List ℕ
  pub line : IsLine happened
  pub whole : row ≡ time_text time ++ happened

-- A text of this kind was written.
pub record Writes (IsKind : List ℕ → Type 0) (old new : Option (List ℕ)) : Type 0 where
  pub text : List ℕ
  pub kind : IsKind text
  pub appended : Appends old new text

-- The word for what became of a transmission; none if the head of its arrow tells it.
abbrev pub fate_word : Fate → List ℕ
fate_word Sent = []
fate_word Heard = []
fate_word Failed = codes "  failed"
fate_word Turned = codes "  turned"
fate_word Ignored = codes "  ignored"
fate_word Lost = codes "  lost"
fate_word Withheld = codes "  withheld"
