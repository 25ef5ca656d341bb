-- The codes of a unit, and the octets that are sent for the units of a text (GA27-3004:
-- intermediate text blocks, each with its own check).
use Rattle.std.specs.Prelude.{ℕ, if◌then◌else◌, List, [], ◌∷◌, ◌++◌, map}
use Rattle.bsc_octet.specs.Octet.{odd_octet}
use Rattle.bsc_octet.specs.Check.{check}
use Rattle.bsc_frame.specs.Texts.{TextUnit}
use Rattle.bsc_frame.specs.declared.text.End.{End}
use Rattle.bsc_frame.specs.declared.text.End.TheVariants.{Etb, Etx}
use Rattle.bsc_frame.specs.declared.text.Unit.{Unit as Lent}
use Rattle.bsc_octet.specs.declared.controls.TheConstants.{EM_CODE, ETB_CODE, ETX_CODE, US_CODE}

-- A lent unit, as its characters and whether EM follows them.
abbrev pub text_unit : Lent → TextUnit
text_unit u = record { chars = u.chars.now; em = u.em }

-- The ending character of a text: ETB if more blocks follow, else ETX.
abbrev pub end_code : End → ℕ
end_code Etb = ETB_CODE
end_code Etx = ETX_CODE

-- The ending character of a unit that stands before these: US for every unit but the last.
abbrev pub ending : List TextUnit → End → ℕ
ending [] end = end_code end
ending (u ∷ us) end = US_CODE

-- The codes of a unit, which its check covers: its characters, EM if the unit has it, its ending
-- character.
abbrev pub unit_codes : TextUnit → ℕ → List ℕ
unit_codes u e = u.chars ++ (if u.em then EM_CODE ∷ [] else []) ++ e ∷ []

-- What is sent for a unit: the octet of each of its codes, then their check.
abbrev pub unit_wire : TextUnit → ℕ → List ℕ
unit_wire u e = map odd_octet (unit_codes u e) ++ check (unit_codes u e)

-- What is sent for the units of a text.
abbrev pub units_wire : List TextUnit → End → List ℕ
units_wire [] end = []
units_wire (u ∷ us) end = unit_wire u (ending us end) ++ units_wire us end
