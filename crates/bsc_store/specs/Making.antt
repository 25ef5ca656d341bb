-- How a store is made of an empty database.
use Rattle.std.specs.Prelude.{◌≡◌, ℕ, pos, true, List, [], ◌∷◌, ◌++◌, codes, Ok}
use Rattle.sqlite.specs.Store.{Ghosts}
use Rattle.sqlite.specs.declared.types.Value.TheVariants.{Int, Text}
use Rattle.sqlite.specs.State.{Executes, HasCleanDisk, Survives}
use Rattle.sqlite.specs.Batch.{ExecutesAllInside}
use Rattle.sqlite.specs.Effect.{Database}
use Rattle.sqlite.specs.Held.{Held, state}
use Rattle.bsc_store.specs.declared.queries.Query.TheVariants as query
use Rattle.bsc_store.specs.Reading.{GivesValue, query_text}

-- The statements that make the tables.
abbrev pub tables_text : List ℕ
tables_text =
    codes "CREATE TABLE line (\n  version INTEGER NOT NULL,\n  line TEXT NOT NULL\n) STRICT;\n"
    ++ codes "CREATE TABLE offered (\n  id INTEGER PRIMARY KEY,\n"
    ++ codes "  way TEXT NOT NULL CHECK (way = 'from' OR way = 'to'),\n"
    ++ codes "  address BLOB NOT NULL,\n"
    ++ codes "  record BLOB NOT NULL CHECK (length(record) <= 144),\n"
    ++ codes "  checked BLOB NOT NULL\n) STRICT;\n"
    ++ codes "CREATE TABLE known (\n"
    ++ codes "  way TEXT NOT NULL CHECK (way = 'from' OR way = 'to'),\n"
    ++ codes "  address BLOB NOT NULL,\n  known INTEGER NOT NULL CHECK (known >= 0),\n"
    ++ codes "  in_doubt INTEGER NOT NULL CHECK (in_doubt >= 0 AND in_doubt <= 7),\n"
    ++ codes "  UNIQUE (way, address)\n) STRICT;\n"
    ++ codes "CREATE TABLE arrived (\n  id INTEGER PRIMARY KEY,\n"
    ++ codes "  way TEXT NOT NULL CHECK (way = 'from' OR way = 'to'),\n"
    ++ codes "  address BLOB NOT NULL,\n"
    ++ codes "  record BLOB NOT NULL CHECK (length(record) <= 144),\n"
    ++ codes "  checked BLOB NOT NULL\n) STRICT;\n"
    ++ codes "CREATE TABLE printed (\n"
    ++ codes "  way TEXT NOT NULL CHECK (way = 'from' OR way = 'to'),\n"
    ++ codes "  address BLOB NOT NULL,\n  printed INTEGER NOT NULL CHECK (printed >= 0),\n"
    ++ codes "  UNIQUE (way, address)\n) STRICT"

-- The statement that keeps the version and the line.
abbrev pub name_text : List ℕ
name_text = codes "INSERT INTO line (version, line) VALUES (?1, ?2)"

-- The tables of a store were made, with version 2 and this text of the line, in one transaction.
pub record IsMade {S : Type 0} (g : Ghosts S) (line : List ℕ) (old : Held S) (db : Database)
    : Type 0 where
  pub made : Held S
  pub last : Held S
  pub count : ℕ
  pub tables : ExecutesAllInside g 0 tables_text (record old { in_transaction = true }) made (Ok tt)
  pub named : Executes name_text (Int (pos 2) ∷ Text line ∷ []) (state g made) (state g last)
      (Ok count)
  pub is : db ≡ (state g last).now

-- A crash leaves what it could leave before, or the store.
abbrev pub SurvivesMaking : {S : Type 0} → Ghosts S → List ℕ → Held S → Held S → Type 0
SurvivesMaking g line old new = Survives (state g old) (state g new)
    (λ trees. (db : Database) × IsMade g line old db × (trees ≡ db.trees))

-- The database had no table and is a new store of this line now.
abbrev pub IsBegun : {S : Type 0} → Ghosts S → List ℕ → Held S → Held S → Type 0
IsBegun {S} g line old new = (empty : Held S)
    × GivesValue g (query_text query.Tables) (Int (pos 0)) old empty
    × (HasCleanDisk (state g new) → IsMade g line empty (state g new).committed)

-- The same of some database that was opened.
abbrev pub IsNewStore : {S : Type 0} → Ghosts S → List ℕ → Held S → Type 0
IsNewStore {S} g line new = (old : Held S) × (HasCleanDisk (state g new) → IsBegun g line old new)
