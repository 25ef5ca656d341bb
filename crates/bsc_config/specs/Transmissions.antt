-- Octets that are heard on the line, in hexadecimal text.
use Rattle.std.specs.Prelude.{ℕ, ◌&&◌, nat_le, Bool, List, [], ◌∷◌, length, codes, Option, Some}
use Rattle.std.specs.Prelude.{None, option_map, if◌then◌else◌}
use Rattle.std.specs.Option.{option_and_then}
use Rattle.std.specs.Str.{bytes_eq}
use Rattle.bsc_carrier.specs.declared.limits.TheConstants.{MAX_RECORD}
use Rattle.bsc_text.specs.Hexadecimal.{octets_of}

-- Whether there are 1 to 2,048 octets, the length of a socket record.
abbrev pub is_carried : List ℕ → Bool
is_carried octets = nat_le 1 (length octets) && nat_le (length octets) MAX_RECORD

-- The octets, if a socket record can carry them.
abbrev pub carried : List ℕ → Option (List ℕ)
carried octets = if is_carried octets then Some octets else None

-- The octets of hexadecimal text without its spaces. There are none if the text is not hexadecimal,
-- or has no octets or more than 2,048.
abbrev pub transmission_of : List ℕ → Option (List ℕ)
transmission_of text = option_and_then carried (octets_of text)

-- What one terminal hears: these octets, or nothing.
abbrev pub Item : Type 0
Item = Option (List ℕ)

-- The item that a word spells: octets, or nothing for a dash. There is none if the word is neither.
abbrev pub item_of : List ℕ → Option Item
item_of word =
    if bytes_eq word (codes "-") then Some None else option_map Some (transmission_of word)

-- An item followed by others, if there are others.
abbrev pub item_before : Option (List Item) → Item → Option (List Item)
item_before items item = option_map (λ more. item ∷ more) items

-- The items of all the words, if each word is an item.
abbrev pub items_of : List (List ℕ) → Option (List Item)
items_of [] = Some []
items_of (word ∷ more) = option_and_then (item_before (items_of more)) (item_of word)
