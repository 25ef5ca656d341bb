-- Texts, as lists of units.
use Rattle.std.specs.Prelude.{◌≡◌, ℕ, zero, suc, ◌<◌, ◌≤◌, Bool, IsTrue, List, [], ◌∷◌, length}
use Rattle.std.specs.Prelude.{slice_range}
use Rattle.std.specs.List.{AllByRecursion}
use Rattle.bsc_octet.specs.Octet.{is_record_char}
use Rattle.bsc_frame.specs.declared.limits.TheConstants.{MAX_UNITS, MAX_CHARS}
use Rattle.bsc_frame.specs.declared.text.End.{End}
use Rattle.bsc_frame.specs.declared.text.Mark.{Mark}

-- A unit of a text: its characters, and whether EM follows them.
pub record TextUnit : Type 0 where
  pub chars : List ℕ
  pub em : Bool

-- A text: its units, and the character that ends the last of them.
pub record TextValue : Type 0 where
  pub units : List TextUnit
  pub end : End

-- A unit within its limits: at most 144 record characters.
pub record IsUnit (u : TextUnit) : Type 0 where
  pub most : length u.chars ≤ MAX_CHARS
  pub each : AllByRecursion (λ c. IsTrue (is_record_char c)) u.chars

-- A text within its limits: 1 to 7 units.
pub record IsText (t : TextValue) : Type 0 where
  pub some : 0 < length t.units
  pub most : length t.units ≤ MAX_UNITS
  pub each : AllByRecursion IsUnit t.units

-- The units of a buffer of characters, by the marks at their ends.
abbrev pub units_from : ℕ → List Mark → List ℕ → List TextUnit
units_from start [] chars = []
units_from start (m ∷ ms) chars =
    record { chars = slice_range chars start m.end; em = m.em } ∷ units_from m.end ms chars

-- Where a unit begins: at the end of the unit before it.
abbrev pub start_before : ℕ → List Mark → ℕ → ℕ
start_before start ms zero = start
start_before start [] (suc place) = start
start_before start (m ∷ ms) (suc place) = start_before m.end ms place

-- The marks are in order and end at the end of the characters.
abbrev pub AreMarked : ℕ → List Mark → List ℕ → Type 0
AreMarked start [] chars = start ≡ length chars
AreMarked start (m ∷ ms) chars = (start ≤ m.end) × (m.end ≤ length chars) × AreMarked m.end ms chars
