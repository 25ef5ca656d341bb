-- What contracts see of a queue, and which block of it is sent next.
use Rattle.std.specs.Prelude.{◌≡◌, ℕ, ◌+◌, ◌<◌, ◌≤◌, nat_eq, if◌then◌else◌, List, [], ◌∷◌, ◌++◌}
use Rattle.std.specs.Prelude.{length, drop, Option, None, Some}
use Rattle.bsc_frame.specs.declared.limits.TheConstants.{MAX_UNITS}
use Rattle.bsc_frame.specs.declared.text.End.TheVariants.{Etb, Etx}
use Rattle.bsc_block.specs.Format.{FormatValue, IsFormat}
use Rattle.bsc_block.specs.Blocks.{AreShort, taken}
use Rattle.bsc_block.specs.Records.{forgotten}
use Rattle.bsc_spool.specs.declared.queue.Next.{Next}

-- The format of the blocks, the records that were offered, in order, and how many of them are known
-- to have been delivered.
pub record QueueValue : Type 0 where
  pub format : FormatValue
  pub offered : List (List ℕ)
  pub known : ℕ

abbrev pub queue_of : FormatValue → List (List ℕ) → ℕ → QueueValue
queue_of f rs k = record { format = f; offered = rs; known = k }

-- No more records are known than were offered, and none is longer than the full length.
pub record IsQueue (q : QueueValue) : Type 0 where
  pub format : IsFormat q.format
  pub known : q.known ≤ length q.offered
  pub short : AreShort q.format.full q.offered

-- The queue with one more record at its end.
abbrev pub with_offered : QueueValue → List ℕ → QueueValue
with_offered q r = queue_of q.format (q.offered ++ r ∷ []) q.known

-- The queue with k more known records.
abbrev pub with_known : QueueValue → ℕ → QueueValue
with_known q k = queue_of q.format q.offered (q.known + k)

-- The queue once its first n records are forgotten.
abbrev pub with_forgotten : QueueValue → ℕ → QueueValue
with_forgotten q n = queue_of q.format (forgotten n q.offered) q.known

-- The waiting records: those after the known ones.
abbrev pub waiting : QueueValue → List (List ℕ)
waiting q = drop q.known q.offered

-- The next block of waiting records: how many it takes, and Etx if these are all that wait, else
-- Etb (GA27-3004: ETB ends a block that others follow, ETX the last one). None if no record waits.
abbrev pub next_after : FormatValue → List (List ℕ) → Option Next
next_after f [] = None
next_after f (r ∷ rs) =
    Some (record {
      count = taken f (r ∷ rs);
      end = if nat_eq (taken f (r ∷ rs)) (length (r ∷ rs)) then Etx else Etb;
    })

-- The next block of a queue.
abbrev pub next_block : QueueValue → Option Next
next_block q = next_after q.format (waiting q)

-- What a next block is: as many of the waiting records as fit, 1 to 7 of them. If it ends with Etx
-- these are all that wait, and if it ends with Etb there are more.
pub record IsNext (q : QueueValue) (n : Next) : Type 0 where
  pub count : n.count ≡ taken q.format (waiting q)
  pub some : 1 ≤ n.count
  pub few : n.count ≤ MAX_UNITS
  pub there : n.count ≤ length (waiting q)
  pub last : n.end ≡ Etx → n.count ≡ length (waiting q)
  pub more : n.end ≡ Etb → n.count < length (waiting q)
