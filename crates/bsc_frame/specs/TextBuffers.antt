-- What a buffer of units holds.
use Rattle.std.specs.Prelude.{◌≡◌, ℕ, ◌<◌, ◌≤◌, List, [], ◌∷◌, ◌++◌, length, Option, Some}
use Rattle.std.specs.List.{AllByRecursion}
use Rattle.bsc_frame.specs.Texts.{TextUnit, TextValue, units_from, AreMarked, IsUnit, IsText}
use Rattle.bsc_frame.specs.declared.limits.TheConstants.{MAX_UNITS}
use Rattle.bsc_frame.specs.declared.text_buffer.TextBuffer.{TextBuffer}
use Rattle.bsc_frame.specs.declared.text.End.{End}

-- The units in the buffer.
abbrev pub buffer_units : TextBuffer → List TextUnit
buffer_units b = units_from 0 b.marks.items b.chars.items

-- The text in the buffer.
abbrev pub buffer_text : TextBuffer → TextValue
buffer_text b = record { units = buffer_units b; end = b.end }

-- The buffer holds units of record characters within their limits, and no other characters.
pub record IsTextBuffer (b : TextBuffer) : Type 0 where
  pub marked : AreMarked 0 b.marks.items b.chars.items
  pub most : length b.marks.items ≤ MAX_UNITS
  pub each : AllByRecursion IsUnit (buffer_units b)

-- The buffer holds a whole text.
pub record HoldsText (b : TextBuffer) : Type 0 where
  pub marked : AreMarked 0 b.marks.items b.chars.items
  pub text : IsText (buffer_text b)

-- The new buffer has the units of the old one, and the unit of these codes at its end.
pub record AddsUnit (old new : TextBuffer) (read : Option (TextUnit × ℕ)) (e : ℕ) : Type 0 where
  pub unit : TextUnit
  pub reads : read ≡ Some (unit, e)
  pub units : buffer_units new ≡ buffer_units old ++ unit ∷ []
  pub buffer : IsTextBuffer new

-- The new buffer has the units of the old one, and the unit that was read at its end.
pub record TakesUnit (old new : TextBuffer) (read : Option (TextUnit × ℕ × List ℕ)) (e : ℕ)
    (rest : List ℕ) : Type 0 where
  pub unit : TextUnit
  pub reads : read ≡ Some (unit, e, rest)
  pub units : buffer_units new ≡ buffer_units old ++ unit ∷ []
  pub buffer : IsTextBuffer new

-- The text that was read has the units of the buffer.
pub record ReadsText (b : TextBuffer) (end : End) (read : Option TextValue) : Type 0 where
  pub reads : read ≡ Some (record { units = buffer_units b; end = end })
  pub buffer : IsTextBuffer b
  pub some : 0 < length (buffer_units b)
