-- The place at which programs feed a station.
use Rattle.std.specs.Prelude.{ℕ, Bool, true, false, List, [], ◌∷◌, Option, Some, None, option_map}
use Rattle.std.specs.Prelude.{codes, if◌then◌else◌}
use Rattle.std.specs.Str.{bytes_eq}
use Rattle.bsc_text.specs.Parts.{after_octet, before_octet}
use Rattle.bsc_options.specs.declared.serves.Serves.{Serves}
use Rattle.bsc_options.specs.declared.serves.Serves.TheVariants.{Address, Path}

-- An address, from which only programs of this machine are served, or any; or a path.
pub data ServesValue : Type 0 where
  at_address : List ℕ → Bool → ServesValue
  at_path : List ℕ → ServesValue

abbrev pub serves_value : Serves → ServesValue
serves_value (Address address anyone) = at_address address.now anyone
serves_value (Path path) = at_path path.now

-- The place, if this text follows the first colon of the address, and the text before it is `unix`
-- or not: a path of an octet or more, or the address.
abbrev pub place_after : Option (List ℕ) → Bool → List ℕ → Bool → ServesValue
place_after (Some (octet ∷ path)) true address anyone = at_path (octet ∷ path)
place_after after is_unix address anyone = at_address address anyone

-- The place that a text names: `unix:PATH` is a path, and any other text an address.
abbrev pub serves_at : List ℕ → Bool → ServesValue
serves_at address anyone =
    place_after (after_octet 58 address) (bytes_eq (before_octet 58 address) (codes "unix"))
    address anyone

-- The place that is given, if one is.
abbrev pub serves_in : Option (List ℕ) → Bool → Option ServesValue
serves_in serve anyone = option_map (λ text. serves_at text anyone) serve

-- Whether a place is given that is an address.
abbrev pub is_at_address : Option ServesValue → Bool
is_at_address (Some (at_address address anyone)) = true
is_at_address other = false

abbrev pub is_address : Option (List ℕ) → Bool
is_address serve = is_at_address (serves_in serve false)
