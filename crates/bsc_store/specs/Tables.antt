-- What the tables have of a change.
use Rattle.std.specs.Prelude.{◌≡◌, ℕ, pos, true, List, [], ◌∷◌, ◌++◌, codes, Ok, IsTrue}
use Rattle.std.specs.Prelude.{Option, Some, None}
use Rattle.sqlite.specs.Store.{Ghosts}
use Rattle.sqlite.specs.Order.{Row}
use Rattle.sqlite.specs.declared.types.Value.TheVariants.{Int, Text, Blob}
use Rattle.sqlite.specs.State.{Executes, HasCleanDisk, Survives}
use Rattle.sqlite.specs.Effect.{Database}
use Rattle.sqlite.specs.Held.{Held, state}
use Rattle.bsc_spool.specs.declared.change.Change.{Change}
use Rattle.bsc_spool.specs.declared.change.Change.TheVariants.{Offered, Known, Arrived}
use Rattle.bsc_spool.specs.declared.change.Change.TheVariants.{Printed}
use Rattle.bsc_store.specs.declared.checks.Marks.{Marks}
use Rattle.bsc_store.specs.Channels.{way_of, address_of}
use Rattle.bsc_store.specs.Checks.{check_of, marks_after}

-- The statement of a change. In a store whose records have checks a record has its mark and its
-- check with it.
abbrev pub text_of : Change → Option Marks → List ℕ
text_of (Offered channel taken) None =
    codes "INSERT INTO offered (way, address, record) VALUES (?1, ?2, ?3)"
text_of (Offered channel taken) (Some marks) =
    codes "INSERT INTO offered (way, address, record, id, checked) VALUES (?1, ?2, ?3, ?4, ?5)"
text_of (Known channel known in_doubt) marks =
    codes "INSERT INTO known (way, address, known, in_doubt) VALUES (?1, ?2, ?3, ?4) "
    ++ codes "ON CONFLICT (way, address) DO UPDATE SET known = ?3, in_doubt = ?4"
text_of (Arrived channel taken) None =
    codes "INSERT INTO arrived (way, address, record) VALUES (?1, ?2, ?3)"
text_of (Arrived channel taken) (Some marks) =
    codes "INSERT INTO arrived (way, address, record, id, checked) VALUES (?1, ?2, ?3, ?4, ?5)"
text_of (Printed channel count) marks =
    codes "INSERT INTO printed (way, address, printed) VALUES (?1, ?2, ?3) "
    ++ codes "ON CONFLICT (way, address) DO UPDATE SET printed = ?3"

-- The values of its parameters, where these are the greatest marks after the change.
abbrev pub values_of : Change → Option Marks → Row
values_of (Offered channel taken) None =
    Text (way_of channel) ∷ Blob (address_of channel) ∷ Blob taken ∷ []
values_of (Offered channel taken) (Some marks) =
    Text (way_of channel) ∷ Blob (address_of channel) ∷ Blob taken ∷ Int (pos marks.offered)
    ∷ Blob (check_of marks.offered channel taken) ∷ []
values_of (Known channel known in_doubt) marks =
    Text (way_of channel) ∷ Blob (address_of channel) ∷ Int (pos known) ∷ Int (pos in_doubt) ∷ []
values_of (Arrived channel taken) None =
    Text (way_of channel) ∷ Blob (address_of channel) ∷ Blob taken ∷ []
values_of (Arrived channel taken) (Some marks) =
    Text (way_of channel) ∷ Blob (address_of channel) ∷ Blob taken ∷ Int (pos marks.arrived)
    ∷ Blob (check_of marks.arrived channel taken) ∷ []
values_of (Printed channel count) marks =
    Text (way_of channel) ∷ Blob (address_of channel) ∷ Int (pos count) ∷ []

-- The statement of a change ran in a transaction, which goes on. These are the greatest marks after
-- it.
pub record Ran {S : Type 0} (g : Ghosts S) (marks : Option Marks) (change : Change)
    (old new : Held S) : Type 0 where
  pub count : ℕ
  pub runs : Executes (text_of change marks) (values_of change marks) (state g old) (state g new)
      (Ok count)
  pub goes_on : IsTrue new.in_transaction

-- The statements of these changes ran in a transaction, in order, and each change was made, from
-- these greatest marks on.
abbrev pub RanAll : {S : Type 0} → Ghosts S → Option Marks → List Change → Held S → Held S
    → Type 0
RanAll g marks [] old new = old ≡ new
RanAll {S} g marks (change ∷ changes) old new =
    (mid : Held S) × Ran g (marks_after change marks) change old mid
    × RanAll g (marks_after change marks) changes mid new

-- The database is what the step makes of the one that the connection shows: what the statement of
-- each change makes, in order, in one transaction.
pub record IsAfter {S : Type 0} (g : Ghosts S) (marks : Option Marks) (step : List Change)
    (old : Held S) (db : Database) : Type 0 where
  pub last : Held S
  pub ran : RanAll g marks step (record old { in_transaction = true }) last
  pub is : db ≡ (state g last).now

-- What `IsAfter` says, where the disk has given back what was written to it.
abbrev pub Keeps : {S : Type 0} → Ghosts S → Option Marks → List Change → Held S → Held S
    → Type 0
Keeps g marks step old new =
    HasCleanDisk (state g new) → IsAfter g marks step old (state g new).committed

-- The database is the same, as the connection shows it and as it is committed.
abbrev pub IsAsBefore : {S : Type 0} → Ghosts S → Held S → Held S → Type 0
IsAsBefore g old new =
    ((state g new).now ≡ (state g old).now) × ((state g new).committed ≡ (state g old).committed)

-- What is committed is the same, where the disk has given back what was written to it and the
-- database is still open.
abbrev pub Stays : {S : Type 0} → Ghosts S → Held S → Held S → Type 0
Stays g old new = HasCleanDisk (state g new) → IsTrue (state g new).is_open
    → (state g new).committed ≡ (state g old).committed

-- A crash leaves what it could leave before the step, or what the step makes.
abbrev pub SurvivesStep : {S : Type 0} → Ghosts S → Option Marks → List Change → Held S → Held S
    → Type 0
SurvivesStep g marks step old new = Survives (state g old) (state g new)
    (λ trees. (db : Database) × IsAfter g marks step old db × (trees ≡ db.trees))
