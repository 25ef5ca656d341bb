-- What contracts see of a spool.
use Rattle.std.specs.Prelude.{◌≡◌, ℕ, ◌+◌, ◌-◌, ◌^◌, Bool, List, [], ◌∷◌, ◌++◌, min}
use Rattle.std.specs.Prelude.{if◌then◌else◌, true, false}
use Rattle.bsc_block.specs.Records.{forgotten}

-- The records that arrived, in order, whether seven more fit without allocating memory, and how
-- often room was refused. Only contracts read the last one.
pub record SpoolValue : Type 0 where
  pub records : List (List ℕ)
  pub room : Bool
  pub delays : ℕ

-- The number of refusals after one more; it stays at its greatest value.
abbrev pub with_delay : ℕ → ℕ
with_delay n = min (n + 1) (2 ^ 64 - 1)

-- The spool after room was requested, with this result. Its records are unchanged.
abbrev pub room_asked : SpoolValue → Bool → SpoolValue
room_asked s answer =
    record {
      records = s.records;
      room = answer;
      delays = if answer then s.delays else with_delay s.delays;
    }

-- The spool of which only the records are known.
abbrev pub without_room : SpoolValue → SpoolValue
without_room s = record { records = s.records; room = false; delays = 0 }

-- The spool has one more record at its end. Room was not refused, and whether there is some now is
-- left open.
pub record GainsRecord (old : SpoolValue) (r : List ℕ) (new : SpoolValue) : Type 0 where
  pub records : new.records ≡ old.records ++ r ∷ []
  pub delays : new.delays ≡ old.delays

-- The first n records of the spool are forgotten. It has room if it had some, and maybe else.
pub record ForgetsRecords (old : SpoolValue) (n : ℕ) (new : SpoolValue) : Type 0 where
  pub records : new.records ≡ forgotten n old.records
  pub room : old.room ≡ true → new.room ≡ true
  pub delays : new.delays ≡ old.delays
