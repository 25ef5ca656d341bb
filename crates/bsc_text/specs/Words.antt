-- The words of a line, which are separated by one space.
use Rattle.std.specs.Prelude.{ℕ, List, Option}
use Rattle.bsc_text.specs.Parts.{before_octet, after_octet, parts_at}

-- The text before the first space, or all of it if there is no space.
abbrev pub first_word : List ℕ → List ℕ
first_word text = before_octet 32 text

-- The text after the first space, further spaces included, if there is a space.
abbrev pub after_word : List ℕ → Option (List ℕ)
after_word text = after_octet 32 text

-- The words between the spaces. There is an empty word between two adjacent spaces, before a space
-- at the start of the text, and after a space at its end.
abbrev pub words_of : List ℕ → List (List ℕ)
words_of text = parts_at 32 text
