-- Texts from elsewhere that are printed as lines, and those that are printed within a line.
use Rattle.std.specs.Prelude.{◌≡◌, ℕ, ◌==◌, ◌&&◌, ◌||◌, not, Bool, List, [], ◌∷◌}
use Rattle.std.specs.Prelude.{if◌then◌else◌}
use Rattle.std.specs.List.{AllPass, flat_map}
use Rattle.bsc_text.specs.Forms.{AreOctets, escape_of, escaped, is_printable}

-- Whether a code is a line feed or that of a character from space to `~`.
abbrev pub is_of_lines : ℕ → Bool
is_of_lines code = code == 10 || is_printable code

-- The text of a code of lines: a line feed and a character from space to `~` as they are, any other
-- as in the text of a record.
abbrev pub line_code : ℕ → List ℕ
line_code code = if is_of_lines code then code ∷ [] else escape_of code

-- Lines from elsewhere, as they are printed.
abbrev pub in_lines : List ℕ → List ℕ
in_lines text = flat_map line_code text

-- Lines that are printed have line feeds and printable characters only, and are as they were if
-- they had no others before.
pub record AreLines : Type 0 where
  pub of_lines : (text : List ℕ) → AreOctets text → AllPass is_of_lines (in_lines text)
  pub kept : (text : List ℕ) → AllPass is_of_lines text → in_lines text ≡ text

-- Whether a code is that of a character from space to `~` other than the backslash.
abbrev pub is_plain : ℕ → Bool
is_plain code = is_printable code && not (code == 92)

-- A text of printable characters without a backslash is printed within a line as it is.
abbrev pub IsAsItIs : Type 0
IsAsItIs = (text : List ℕ) → AllPass is_plain text → escaped text ≡ text
