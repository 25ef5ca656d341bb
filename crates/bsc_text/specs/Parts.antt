-- Splitting a text at the octets with one value.
use Rattle.std.specs.Prelude.{ℕ, ◌+◌, ◌==◌, List, drop, position, Option, option_map}
use Rattle.std.specs.List.{before_first, slice_split}

-- The text before the first octet with this value, or all of it if there is no such octet.
abbrev pub before_octet : ℕ → List ℕ → List ℕ
before_octet value text = before_first (λ octet. octet == value) text

-- The text after the first octet with this value, if there is such an octet.
abbrev pub after_octet : ℕ → List ℕ → Option (List ℕ)
after_octet value text =
    option_map (λ place. drop (place + 1) text) (position (λ octet. octet == value) text)

-- The parts between the octets with this value. The text after the last of them is a part too.
abbrev pub parts_at : ℕ → List ℕ → List (List ℕ)
parts_at value text = slice_split (λ octet. octet == value) text
