-- Records that C gives, and records that C gets. This is the project's own.
use Rattle.std.specs.Prelude.{◌≡◌, ℕ, List, Option, Some, None, Result, Ok, Err}
use Rattle.bsc_block.specs.Records.{record_of}
use Rattle.bsc_block.specs.declared.record.RecordError.{RecordError}
use Rattle.bsc_embed.specs.Buffers.{IsPut}
use Rattle.bsc_embed.specs.FromFaults.{record_fault}
use Rattle.bsc_embed.specs.declared.interface.fault.Fault.{Fault}
use Rattle.bsc_embed.specs.declared.interface.fault.Fault.TheVariants.{NoSuchRecord}

-- A record that was read, or the fault that its error is.
abbrev pub as_record : Result (List ℕ) RecordError → Result (List ℕ) Fault
as_record (Ok r) = Ok r
as_record (Err e) = Err (record_fault e)

-- The record of these codes, for this full length, or the fault: more codes than the full length,
-- else a code that is not a record character.
abbrev pub record_in : ℕ → List ℕ → Result (List ℕ) Fault
record_in full codes = as_record (record_of full codes)

-- A record, if there is one, is put into a buffer: the buffer and the length as they were and as
-- they are, and the answer.
abbrev pub PutsRecord : Option (List ℕ) → List ℕ → ℕ → List ℕ → ℕ → Result (Unit {0}) Fault
    → Type 0
PutsRecord None old old_len new len answer =
    (answer ≡ Err NoSuchRecord) × (new ≡ old) × (len ≡ old_len)
PutsRecord (Some r) old old_len new len answer = IsPut r old old_len answer new len
