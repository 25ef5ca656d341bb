-- The forms of a record in print.
use Rattle.std.specs.Prelude.{◌≡◌, ℕ, ◌/◌, ◌%◌, ◌<◌, ◌==◌, ◌&&◌, nat_le, Bool, List, [], ◌∷◌, All}
use Rattle.std.specs.Prelude.{if◌then◌else◌}
use Rattle.std.specs.List.{AllPass, flat_map}
use Rattle.std.specs.Char.{digit_char}
use Rattle.bsc_text.specs.Names.{chars_shown}
use Rattle.bsc_text.specs.declared.form.Form.{Form}
use Rattle.bsc_text.specs.declared.form.Form.TheVariants.{Hexadecimal, Text, Bytes}

-- Whether a code is that of a character from space to `~`.
abbrev pub is_printable : ℕ → Bool
is_printable code = nat_le 32 code && nat_le code 126

-- A backslash and `x`, and the code in two hexadecimal digits.
abbrev pub hex_escape : ℕ → List ℕ
hex_escape code = 92 ∷ 120 ∷ digit_char (code / 16) ∷ digit_char (code % 16) ∷ []

-- The text of a code: a character from space to `~` as it is, but the backslash twice; a tab, a
-- line feed and a carriage return by a backslash and a letter; any other by its digits.
abbrev pub escape_of : ℕ → List ℕ
escape_of code =
    if code == 92 then 92 ∷ 92 ∷ []
    else (if code == 9 then 92 ∷ 116 ∷ []
    else (if code == 10 then 92 ∷ 110 ∷ []
    else (if code == 13 then 92 ∷ 114 ∷ []
    else (if is_printable code then code ∷ [] else hex_escape code))))

-- The text of a record.
abbrev pub escaped : List ℕ → List ℕ
escaped chars = flat_map escape_of chars

-- A record in a form.
abbrev pub in_form : Form → List ℕ → List ℕ
in_form Hexadecimal chars = chars_shown chars
in_form Text chars = escaped chars
in_form Bytes chars = chars

-- Codes of octets.
abbrev pub AreOctets : List ℕ → Type 0
AreOctets chars = All (λ code. code < 256) chars

-- The text of a record is one line of printable characters.
abbrev pub IsOneLine : Type 0
IsOneLine = (chars : List ℕ) → AreOctets chars → AllPass is_printable (escaped chars)

-- Records with the same text are the same, so that the text can be read back.
abbrev pub HasOneReading : Type 0
HasOneReading = (a b : List ℕ) → AreOctets a → AreOctets b → escaped a ≡ escaped b → a ≡ b
