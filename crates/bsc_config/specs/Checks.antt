-- The checks of every table of a document before any value is read.
use Rattle.std.specs.Prelude.{ℕ, ◌+◌, List, Option, Some, None, Result, Ok, Err, if◌then◌else◌}
use Rattle.toml.specs.Data.{Data, table, Items, no_items, item, Members, no_members, member}
use Rattle.bsc_config.specs.declared.key.Key.TheVariants.{Version, PollList, Terminals, Poll}
use Rattle.bsc_config.specs.declared.key.Key.TheVariants.{Select}
use Rattle.bsc_config.specs.declared.key.Owner.{Owner}
use Rattle.bsc_config.specs.declared.key.Owner.TheVariants.{Document, Terminal}
use Rattle.bsc_config.specs.Keys.{is_known}
use Rattle.bsc_config.specs.Faults.{Fault, unknown_key, ◌>>=◌}
use Rattle.bsc_config.specs.Tables.{required, terminal_tables}

-- The check of a value that may be a table. A value that is not a table passes.
abbrev pub check_table : (Members → Result (Unit {0}) Fault) → Data → Result (Unit {0}) Fault
check_table check (table members) = check members
check_table check _ = Ok tt

-- The check of each of these values, each with the number of its terminal; `number` is that of the
-- first.
abbrev pub check_each :
    (ℕ → Members → Result (Unit {0}) Fault) → ℕ → Items → Result (Unit {0}) Fault
check_each check number no_items = Ok tt
check_each check number (item first rest) =
    check_table (check number) first >>= λ _. check_each check (number + 1) rest

-- The smallest key, compared byte by byte, that a table with this owner may not have. The members
-- of a table are sorted by the bytes of their keys.
abbrev pub first_unknown : Owner → Members → Option (List ℕ)
first_unknown owner no_members = None
first_unknown owner (member name value rest) =
    if is_known owner name then first_unknown owner rest else Some name

-- The fault for an unknown key, if one was found.
abbrev pub refuse_unknown : Owner → Option (List ℕ) → Result (Unit {0}) Fault
refuse_unknown owner None = Ok tt
refuse_unknown owner (Some name) = Err (unknown_key owner name)

-- The table has no unknown key.
abbrev pub known_keys_of : Owner → Members → Result (Unit {0}) Fault
known_keys_of owner members = refuse_unknown owner (first_unknown owner members)

-- The document, and then each terminal, has no unknown key.
abbrev pub known_keys : Members → Result (Unit {0}) Fault
known_keys document = do
  of_document ← known_keys_of Document document
  check_each (λ number. known_keys_of (Terminal number)) 0 (terminal_tables document)

-- The table of a terminal has both its keys.
abbrev pub terminal_keys_present : ℕ → Members → Result (Unit {0}) Fault
terminal_keys_present number members = do
  poll ← required (Poll number) members
  select ← required (Select number) members
  Ok tt

-- The document, and then each terminal, has all its required keys.
abbrev pub keys_present : Members → Result (Unit {0}) Fault
keys_present document = do
  version ← required Version document
  poll_list ← required PollList document
  terminals ← required Terminals document
  check_each terminal_keys_present 0 (terminal_tables document)
