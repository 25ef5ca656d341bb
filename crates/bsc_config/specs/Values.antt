-- Conversions of single values.
use Rattle.std.specs.Prelude.{ℕ, ℤ, pos, negsuc, List, [], ◌∷◌, Option, Some, None, Result, ok_or}
use Rattle.std.specs.Prelude.{option_map, option_and_then, if◌then◌else◌}
use Rattle.std.specs.Result.{result_ok}
use Rattle.toml.specs.Data.{Data, Items, no_items, item, as_integer, as_str, as_array}
use Rattle.bsc_config.specs.declared.key.Key.{Key}
use Rattle.bsc_config.specs.Faults.{Fault, wrong_value}
use Rattle.bsc_block.specs.Format.{is_within}
use Rattle.bsc_frame.specs.Message.{read_address}

-- The number that an integer is, if it is from `least` to `most`.
abbrev pub within : ℕ → ℕ → ℤ → Option ℕ
within least most (pos n) = if is_within least most n then Some n else None
within least most (negsuc n) = None

-- A whole number from `least` to `most`.
abbrev pub whole_number : ℕ → ℕ → Data → Option ℕ
whole_number least most value = option_and_then (within least most) (as_integer value)

-- An address, by its codes: a string of 1 to 7 characters from 21 to 7E hexadecimal.
abbrev pub address_in : Data → Option (List ℕ)
address_in value = option_and_then (λ text. result_ok (read_address text)) (as_str value)

-- The readings of all the items, if each of them can be read.
abbrev pub read_each : {V : Type 0} → (Data → Option V) → Items → Option (List V)
read_each read no_items = Some []
read_each read (item first rest) =
    option_and_then
    (λ value. option_map (λ values. value ∷ values) (read_each read rest)) (read first)

-- The readings of the items of a list, if each of them can be read.
abbrev pub list_in : {V : Type 0} → (Data → Option V) → Data → Option (List V)
list_in read value = option_and_then (read_each read) (as_array value)

-- The reading of the value at a key. A value that cannot be read is a wrong value of the key.
abbrev pub or_wrong : {V : Type 0} → Key → Option V → Result V Fault
or_wrong key reading = ok_or reading (wrong_value key)
