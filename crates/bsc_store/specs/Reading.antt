-- What is read of the tables.
use Rattle.std.specs.Prelude.{◌≡◌, ◌⊎◌, ◌+◌, ℕ, ℤ, pos, Bool, true, false, List, [], ◌∷◌, ◌++◌}
use Rattle.std.specs.Prelude.{Option, Some, None, Ok, Err, codes, is_some}
use Rattle.sqlite.specs.Store.{Ghosts}
use Rattle.sqlite.specs.Order.{Row, column}
use Rattle.sqlite.specs.declared.types.Value.{Value}
use Rattle.sqlite.specs.declared.types.Value.TheVariants.{Int, Text, Blob}
use Rattle.sqlite.specs.declared.error.Error.{Error}
use Rattle.sqlite.specs.declared.error.Error.TheVariants.{QueryReturnedNoRows}
use Rattle.sqlite.specs.State.{QueriesRow, HasCleanDisk, KeepsCommit, Survives}
use Rattle.sqlite.specs.Held.{Held, state}
use Rattle.sqlite_resolve.specs.declared.compiled.Compiled.{Compiled}
use Rattle.sqlite_schema.specs.declared.schema.Schema.{Schema}
use Rattle.sqlite.specs.Listing.{understood}
use Rattle.bsc_block.specs.Records.{record_of}
use Rattle.bsc_block.specs.declared.limits.TheConstants.{MAX_FULL}
use Rattle.bsc_spool.specs.declared.channel.Channel.{Channel}
use Rattle.bsc_spool.specs.declared.store.Progress.{Progress}
use Rattle.bsc_spool.specs.declared.store.Found.{Found}
use Rattle.bsc_spool.specs.declared.fault.StoreFault.{StoreFault}
use Rattle.bsc_spool.specs.declared.fault.StoreFault.TheVariants as fault
use Rattle.bsc_store.specs.Faults.{fault_for, unread}
use Rattle.bsc_spool.specs.Names.{named}
use Rattle.bsc_store.specs.declared.queries.Query.{Query}
use Rattle.bsc_store.specs.declared.queries.Query.TheVariants as query
use Rattle.bsc_store.specs.declared.queries.Side.{Side}
use Rattle.bsc_store.specs.declared.queries.Side.TheVariants as side
use Rattle.bsc_store.specs.declared.checks.Marks.{Marks}
use Rattle.bsc_store.specs.Channels.{way_of, address_of}
use Rattle.bsc_store.specs.Checks.{HasCheck}

-- The text only reads, whatever the tables are: it shows no rows of a change that it makes.
unfoldable pub OnlyReads : List ℕ → Type 0
OnlyReads text = (schema : Schema) (it : Compiled) → understood schema text ≡ Ok it
    → it.returning ≡ None

-- The first row that a query gives of the database that the connection shows; none if it gives no
-- row.
abbrev pub Gives : {S : Type 0} → Ghosts S → List ℕ → Row → Held S → Held S → Option Row → Type 0
Gives g text values old new (Some row) = QueriesRow text values (state g old) (state g new) (Ok row)
Gives g text values old new None =
    QueriesRow text values (state g old) (state g new) (Err QueryReturnedNoRows)

-- The database refuses a query, and this is the fault for its error.
abbrev pub IsRefused : {S : Type 0} → Ghosts S → List ℕ → Row → Held S → Held S → StoreFault
    → Type 0
IsRefused g text values old new it = (error : Error) × (it ≡ unread (fault_for error))
    × (HasCleanDisk (state g new) → QueriesRow text values (state g old) (state g new) (Err error))

-- The fault for a row that is not one of a store, or that memory has no room for.
abbrev pub IsUnreadable : StoreFault → Type 0
IsUnreadable it = (it ≡ fault.Damaged) ⊎ (it ≡ fault.OutOfMemory)

-- Nothing is read: the database refuses the query, or what it gives is not what a store has.
abbrev pub IsUnread : {S : Type 0} → Ghosts S → List ℕ → Row → Held S → Held S → StoreFault
    → Type 0
IsUnread g text values old new it = IsRefused g text values old new it
    ⊎ ((found : Option Row) × (HasCleanDisk (state g new) → Gives g text values old new found)
    × IsUnreadable it)

-- The text of a query.
abbrev pub query_text : Query → List ℕ
query_text query.Tables = codes "SELECT count(*) FROM sqlite_schema"
query_text query.Version = codes "SELECT version FROM line"
query_text query.Line = codes "SELECT line FROM line"
query_text query.WrongKnown = codes "SELECT count(*) FROM known AS k "
    ++ codes "WHERE k.known + k.in_doubt > (SELECT count(*) FROM offered AS o "
    ++ codes "WHERE o.way = k.way AND o.address = k.address)"
query_text query.WrongPrinted = codes "SELECT count(*) FROM printed AS p "
    ++ codes "WHERE p.printed > (SELECT count(*) FROM arrived AS a "
    ++ codes "WHERE a.way = p.way AND a.address = p.address)"
query_text query.Progress =
    codes "SELECT (SELECT count(*) FROM offered WHERE way = ?1 AND address = ?2), "
    ++ codes "(SELECT coalesce(sum(known), 0) FROM known WHERE way = ?1 AND address = ?2), "
    ++ codes "(SELECT coalesce(sum(in_doubt), 0) FROM known WHERE way = ?1 AND address = ?2), "
    ++ codes "(SELECT count(*) FROM arrived WHERE way = ?1 AND address = ?2), "
    ++ codes "(SELECT coalesce(sum(printed), 0) FROM printed WHERE way = ?1 AND address = ?2)"
query_text query.NextOffered = codes "SELECT id, record FROM offered WHERE id > ?3 AND way = ?1 "
    ++ codes "AND address = ?2 ORDER BY id LIMIT 1 OFFSET ?4"
query_text query.NextArrived = codes "SELECT id, record FROM arrived WHERE id > ?3 AND way = ?1 "
    ++ codes "AND address = ?2 ORDER BY id LIMIT 1 OFFSET ?4"
query_text query.CheckedOffered = codes "SELECT id, record, checked FROM offered "
    ++ codes "WHERE id > ?3 AND way = ?1 AND address = ?2 ORDER BY id LIMIT 1 OFFSET ?4"
query_text query.CheckedArrived = codes "SELECT id, record, checked FROM arrived "
    ++ codes "WHERE id > ?3 AND way = ?1 AND address = ?2 ORDER BY id LIMIT 1 OFFSET ?4"
query_text query.OfferedUpTo =
    codes "SELECT count(*) FROM offered WHERE id <= ?3 AND way = ?1 AND address = ?2"
query_text query.ArrivedUpTo =
    codes "SELECT count(*) FROM arrived WHERE id <= ?3 AND way = ?1 AND address = ?2"
query_text query.LastOffered = codes "SELECT coalesce(max(id), 0) FROM offered"
query_text query.LastArrived = codes "SELECT coalesce(max(id), 0) FROM arrived"

-- The query for the next record, with its check if records have checks, and the one for how many
-- records stand up to a mark.
abbrev pub next_query : Side → Bool → Query
next_query side.Offered false = query.NextOffered
next_query side.Offered true = query.CheckedOffered
next_query side.Arrived false = query.NextArrived
next_query side.Arrived true = query.CheckedArrived

abbrev pub up_to_query : Side → Query
up_to_query side.Offered = query.OfferedUpTo
up_to_query side.Arrived = query.ArrivedUpTo

-- The values of the queries for a channel, for the records up to a mark, and for one of its
-- records.
abbrev pub channel_values : Channel → Row
channel_values channel = Text (way_of channel) ∷ Blob (address_of channel) ∷ []

abbrev pub up_to_values : Channel → ℤ → Row
up_to_values channel mark =
    Text (way_of channel) ∷ Blob (address_of channel) ∷ Int mark ∷ []

abbrev pub place_values : Channel → ℤ → ℕ → Row
place_values channel mark more =
    Text (way_of channel) ∷ Blob (address_of channel) ∷ Int mark ∷ Int (pos more) ∷ []

-- The fault names a record by its channel, and by how many records stand up to the mark and this
-- many more.
abbrev pub IsNumbered : {S : Type 0} → Ghosts S → Side → Channel → ℤ → ℕ → Held S → Held S
    → StoreFault → Type 0
IsNumbered g side channel mark more old new it = (row : Row) × (before : ℕ)
    × (HasCleanDisk (state g new)
    → Gives g (query_text (up_to_query side)) (up_to_values channel mark) old new (Some row)
    × (column row 0 ≡ Int (pos before)))
    × (it ≡ fault.DamagedRecord (named channel) (before + more))

-- The numbers in a row.
pub record AreNumbers (row : Row) (it : Progress) : Type 0 where
  pub offered : column row 0 ≡ Int (pos it.offered)
  pub known : column row 1 ≡ Int (pos it.known)
  pub in_doubt : column row 2 ≡ Int (pos it.in_doubt)
  pub arrived : column row 3 ≡ Int (pos it.arrived)
  pub printed : column row 4 ≡ Int (pos it.printed)

-- The numbers of a channel are those that the query gives.
abbrev pub IsProgress : {S : Type 0} → Ghosts S → Channel → Held S → Held S → Progress → Type 0
IsProgress g channel old new it = (row : Row)
    × Gives g (query_text query.Progress) (channel_values channel) old new (Some row)
    × AreNumbers row it

-- The row has this record of the channel, with its mark, and with its check if records have checks.
abbrev pub IsRecord : Option Marks → Channel → Row → Found → Type 0
IsRecord marks channel row it = (column row 0 ≡ Int it.mark) × (column row 1 ≡ Blob it.«record»)
    × (record_of MAX_FULL it.«record» ≡ Ok it.«record») × HasCheck marks channel row it

-- A record is the one that the query gives, with its mark; none if the query gives none.
abbrev pub IsFound : {S : Type 0} → Ghosts S → Option Marks → Side → Channel → ℤ → ℕ → Held S
    → Held S → Option Found → Type 0
IsFound g marks side channel mark more old new (Some it) = (row : Row)
    × Gives g (query_text (next_query side (is_some marks))) (place_values channel mark more)
    old new (Some row)
    × IsRecord marks channel row it
IsFound g marks side channel mark more old new None =
    Gives g (query_text (next_query side (is_some marks))) (place_values channel mark more)
    old new None

-- The query gives a row, and the fault says that it is not as it was kept: it names the channel and
-- the number of the record, which is how many records of the channel stand up to the mark and how
-- many are passed over after it. If the records before it are not counted, it is why not.
pub record IsDamaged {S : Type 0} (g : Ghosts S) (marks : Option Marks) (side : Side)
    (channel : Channel) (mark : ℤ) (more : ℕ) (old new : Held S) (it : StoreFault) : Type 0 where
  pub mid : Held S
  pub row : Row
  pub gives : HasCleanDisk (state g mid)
      → Gives g (query_text (next_query side (is_some marks))) (place_values channel mark more)
      old mid (Some row)
  pub wrong : (found : Found) → ¬ IsRecord marks channel row found
  pub names : IsUnread g (query_text (up_to_query side)) (up_to_values channel mark) mid new it
      ⊎ IsNumbered g side channel mark more mid new it

-- A record is not found: the query is refused, memory has no room, or the record is damaged.
abbrev pub IsNotFound : {S : Type 0} → Ghosts S → Option Marks → Side → Channel → ℤ → ℕ → Held S
    → Held S → StoreFault → Type 0
IsNotFound g marks side channel mark more old new it =
    IsRefused g (query_text (next_query side (is_some marks))) (place_values channel mark more)
    old new it
    ⊎ ((it ≡ fault.OutOfMemory) ⊎ IsDamaged g marks side channel mark more old new it)

-- Nothing that is committed changes, and a crash leaves nothing new.
pub record OnlyRead {S : Type 0} (g : Ghosts S) (old new : Held S) : Type 0 where
  pub kept : HasCleanDisk (state g new) → KeepsCommit (state g old) (state g new)
  pub crash : Survives (state g old) (state g new) (λ _. ⊥)

-- The one value in the row that a query without values gives.
abbrev pub GivesValue : {S : Type 0} → Ghosts S → List ℕ → Value → Held S → Held S → Type 0
GivesValue g text value old new =
    (row : Row) × Gives g text [] old new (Some row) × (column row 0 ≡ value)

-- The version tells whether records have checks, and then these are the greatest marks.
abbrev pub AreMarks : {S : Type 0} → Ghosts S → Option Marks → ℕ → Held S → Held S → Type 0
AreMarks g None version old new = (version ≡ 1) × (new ≡ old)
AreMarks {S} g (Some marks) version old new = (version ≡ 2) × (mid : Held S)
    × GivesValue g (query_text query.LastOffered) (Int (pos marks.offered)) old mid
    × GivesValue g (query_text query.LastArrived) (Int (pos marks.arrived)) mid new

-- The database is a store of this line: its version is a known one, its text of the line is this
-- one, and no channel has more known or in doubt than offered, or more printed than arrived.
pub record IsStoreOf {S : Type 0} (g : Ghosts S) (text : List ℕ) (greatest : Option Marks)
    (old new : Held S) : Type 0 where
  pub number : ℕ
  pub second : Held S
  pub third : Held S
  pub fourth : Held S
  pub fifth : Held S
  pub version : GivesValue g (query_text query.Version) (Int (pos number)) old second
  pub line : GivesValue g (query_text query.Line) (Text text) second third
  pub known : GivesValue g (query_text query.WrongKnown) (Int (pos 0)) third fourth
  pub printed : GivesValue g (query_text query.WrongPrinted) (Int (pos 0)) fourth fifth
  pub marks : AreMarks g greatest number fifth new

-- The database is a store of the line with this text.
abbrev pub IsStoreOfItself : {S : Type 0} → Ghosts S → List ℕ → Option Marks → Held S → Type 0
IsStoreOfItself {S} g text marks db = (before : Held S) × IsStoreOf g text marks before db

-- Some database that was opened is a store of the line with this text, and was only read since.
pub record IsOpenedStore {S : Type 0} (g : Ghosts S) (text : List ℕ) (marks : Option Marks)
    (new : Held S) : Type 0 where
  pub old : Held S
  pub read : OnlyRead g old new
  pub is : HasCleanDisk (state g new) → IsStoreOfItself g text marks new
