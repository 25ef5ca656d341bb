-- Texts in a document. What a trace tells may have any octets.
use Rattle.std.specs.Prelude.{◌≡◌, ℕ, ◌==◌, ◌&&◌, ◌||◌, not, Bool, true, List, [], ◌∷◌, codes, take}
use Rattle.std.specs.Prelude.{if◌then◌else◌}
use Rattle.std.specs.Str.{bytes_eq}
use Rattle.std.specs.List.{flat_map, list_all}
use Rattle.bsc_text.specs.Forms.{is_printable}

-- The text of a code: the five characters with a meaning in a document by their names, another
-- character from space to `~` as it is, and any other code as a dot.
abbrev pub escaped_code : ℕ → List ℕ
escaped_code code =
    if code == 38 then codes "&amp;"
    else (if code == 60 then codes "&lt;"
    else (if code == 62 then codes "&gt;"
    else (if code == 34 then codes "&quot;"
    else (if code == 39 then codes "&apos;"
    else (if is_printable code then code ∷ [] else codes ".")))))

-- The text of some characters.
abbrev pub escaped : List ℕ → List ℕ
escaped chars = flat_map escaped_code chars

-- Whether a code is that of a character from space to `~`, and no `<`, `>` or quote.
abbrev pub is_plain : ℕ → Bool
is_plain code =
    is_printable code && not (code == 60) && not (code == 62) && not (code == 34)
    && not (code == 39)

-- The text of some characters has no `<`, no `>`, no quote and no control code.
abbrev pub IsPlain : Type 0
IsPlain = (chars : List ℕ) → list_all is_plain (escaped chars) ≡ true

-- Whether a text is one of the names of the five characters.
abbrev pub is_name : List ℕ → Bool
is_name text =
    bytes_eq text (codes "&amp;") || bytes_eq text (codes "&lt;") || bytes_eq text (codes "&gt;")
    || bytes_eq text (codes "&quot;") || bytes_eq text (codes "&apos;")

-- Whether an ampersand in the text of a code is only that of a name.
abbrev pub is_piece : List ℕ → Bool
is_piece text = is_name text || list_all (λ code. not (code == 38)) text

-- The text of each code is a name, or has no ampersand.
abbrev pub IsNamed : Type 0
IsNamed = (code : ℕ) → is_piece (escaped_code code) ≡ true

-- The first characters of a text that are shown.
abbrev pub shown : List ℕ → List ℕ
shown chars = take 64 chars
