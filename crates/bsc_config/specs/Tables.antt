-- The values at the keys of a table.
use Rattle.std.specs.Prelude.{Bool, true, ◌&&◌, is_some, Option, Some, None, Result, ok_or}
use Rattle.std.specs.Prelude.{unwrap_or, option_and_then, if◌then◌else◌}
use Rattle.toml.specs.Data.{Data, Items, no_items, item, Members, get_member, as_table}
use Rattle.toml.specs.Data.{as_array}
use Rattle.bsc_config.specs.declared.key.Key.{Key}
use Rattle.bsc_config.specs.declared.key.Key.TheVariants.{Terminals}
use Rattle.bsc_config.specs.Keys.{name_of}
use Rattle.bsc_config.specs.Faults.{Fault, missing_key}

-- The value at a key, if the key is present.
abbrev pub value_at : Key → Members → Option Data
value_at key table = get_member (name_of key) table

-- The value at a required key.
abbrev pub required : Key → Members → Result Data Fault
required key table = ok_or (value_at key table) (missing_key key)

-- Whether each of the items is a table.
abbrev pub are_tables : Items → Bool
are_tables no_items = true
are_tables (item first rest) = is_some (as_table first) && are_tables rest

-- The items, if each of them is a table.
abbrev pub only_tables : Items → Option Items
only_tables items = if are_tables items then Some items else None

-- The tables in a list of tables. A value that is not such a list has none.
abbrev pub tables_in : Data → Option Items
tables_in value = option_and_then only_tables (as_array value)

-- The tables of the terminals of a document: none if `terminals` is absent or is not a list of
-- tables.
abbrev pub terminal_tables : Members → Items
terminal_tables table = unwrap_or (option_and_then tables_in (value_at Terminals table)) no_items
