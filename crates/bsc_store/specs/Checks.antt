-- The checks of records.
use Rattle.std.specs.Prelude.{◌≡◌, ℕ, ◌+◌, ◌<◌, ◌^◌, pos, List, [], ◌∷◌, ◌++◌, take, Option, Some}
use Rattle.std.specs.Prelude.{None}
use Rattle.std.specs.Int.{w32, to_le_bytes}
use Rattle.md5.specs.Md5.{md5}
use Rattle.sqlite.specs.Order.{Row, column}
use Rattle.sqlite.specs.declared.types.Value.TheVariants.{Blob}
use Rattle.bsc_spool.specs.declared.channel.Channel.{Channel}
use Rattle.bsc_spool.specs.declared.change.Change.{Change}
use Rattle.bsc_spool.specs.declared.change.Change.TheVariants.{Offered, Known, Arrived, Printed}
use Rattle.bsc_spool.specs.declared.store.Found.{Found}
use Rattle.bsc_store.specs.declared.checks.Marks.{Marks}
use Rattle.bsc_store.specs.declared.checks.TheConstants.{CHECK_OCTETS}
use Rattle.bsc_store.specs.Channels.{way_of, address_of}

-- The digest of the mark of a record, its channel and its characters.
abbrev pub digest_of : ℕ → Channel → List ℕ → List ℕ
digest_of mark channel chars =
    md5
    ((((to_le_bytes w32 mark ++ way_of channel) ++ address_of channel) ++ 0 ∷ []) ++ chars)

-- The check of a record: the first octets of that.
abbrev pub check_of : ℕ → Channel → List ℕ → List ℕ
check_of mark channel chars = take CHECK_OCTETS (digest_of mark channel chars)

-- The greatest marks after a change, in a store whose records have checks, and in another one.
abbrev pub marks_after : Change → Option Marks → Option Marks
marks_after (Offered channel taken) None = None
marks_after (Offered channel taken) (Some it) = Some (record it { offered = it.offered + 1 })
marks_after (Known channel known in_doubt) marks = marks
marks_after (Arrived channel taken) None = None
marks_after (Arrived channel taken) (Some it) = Some (record it { arrived = it.arrived + 1 })
marks_after (Printed channel count) marks = marks

-- So after all changes of a step, in order.
abbrev pub marks_after_all : List Change → Option Marks → Option Marks
marks_after_all [] marks = marks
marks_after_all (change ∷ changes) marks = marks_after_all changes (marks_after change marks)

-- The row has the check of this record, if the records of the store have checks.
abbrev pub HasCheck : Option Marks → Channel → Row → Found → Type 0
HasCheck None channel row it = Unit {0}
HasCheck (Some marks) channel row it = (mark : ℕ) × (mark < 2 ^ 32) × (it.mark ≡ pos mark)
    × (column row 2 ≡ Blob (check_of mark channel it.«record»))
