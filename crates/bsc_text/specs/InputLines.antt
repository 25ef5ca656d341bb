-- The lines of a text.
use Rattle.std.specs.Prelude.{ℕ, ◌==◌, Bool, true, List, [], ◌∷◌, map}
use Rattle.std.specs.List.{list_all}
use Rattle.std.specs.Str.Lines.{strip_carriage_return}
use Rattle.bsc_text.specs.Hexadecimal.{is_space}
use Rattle.bsc_text.specs.Parts.{parts_at}

-- The parts of the text between its line feeds. The text after the last line feed is a part too.
abbrev pub parts_of : List ℕ → List (List ℕ)
parts_of text = parts_at 10 text

-- The lines of the text: each part without one carriage return at its end.
abbrev pub lines_of : List ℕ → List (List ℕ)
lines_of text = map strip_carriage_return (parts_of text)

-- Whether the line is empty or has only spaces.
abbrev pub is_blank : List ℕ → Bool
is_blank line = list_all is_space line

-- Whether the line is skipped: it is empty, or its first character is `#`.
abbrev pub is_skipped : List ℕ → Bool
is_skipped [] = true
is_skipped (octet ∷ more) = octet == 35
