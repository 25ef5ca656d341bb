-- What calls do to a reader or a writer whose octets are known.
use Rattle.std.specs.Prelude.{◌≡◌, ◌≢◌, ℕ, ◌<◌, ◌↔◌, ⊤, Bool, true, false, List, length, take}
use Rattle.std.specs.Prelude.{Option, Some, None, Result, Ok, Err}
use Rattle.std.specs.Io.KnownBytes.{Appends, Consumes, Keeps, IsAtEnd}
use Rattle.bsc_carrier.specs.Record.{IsCarried, socket_record}
use Rattle.bsc_carrier.specs.Front.{IsPartial, EndsWithin, HasWrongLength}
use Rattle.bsc_carrier.specs.Faults.{HasFailed}
use Rattle.bsc_carrier.specs.declared.error.CarrierError.{CarrierError}
use Rattle.bsc_carrier.specs.declared.error.CarrierError.TheVariants.{Length, Short, Device}
use Rattle.bsc_carrier.specs.declared.error.CarrierError.TheVariants.{Unequal}

-- A front part of these octets was written, but not all of them.
abbrev pub AppendsPart : Option (List ℕ) → Option (List ℕ) → List ℕ → Type 0
AppendsPart old new octets = (n : ℕ) × (n < length octets) × Appends old new (take n octets)

-- Octets of which P holds were read.
abbrev pub LosesSome : (List ℕ → Type 0) → Option (List ℕ) → Option (List ℕ) → Type 0
LosesSome P old new = (front : List ℕ) × P front × Consumes old new front

-- What a read of one record returns, and what it takes from the reader.
abbrev pub ReadsRecord : Option (List ℕ) → Result Bool CarrierError → List ℕ → Option (List ℕ)
    → Type 0
-- It takes exactly the record of these octets.
ReadsRecord old (Ok true) octets new = IsCarried octets × Consumes old new (socket_record octets)
-- It takes nothing, because the input has ended.
ReadsRecord old (Ok false) octets new = IsAtEnd old × Keeps old new
-- It takes a wrong length.
ReadsRecord old (Err Length) octets new =
    LosesSome (λ front. HasWrongLength front × (length front ≡ 2)) old new
-- It takes all that was left, which is less than a record.
ReadsRecord old (Err Short) octets new = LosesSome EndsWithin old new × IsAtEnd new
-- It takes less than a record, and then a read failed.
ReadsRecord old (Err (Device why)) octets new = LosesSome IsPartial old new
ReadsRecord old (Err Unequal) octets new = ⊥

-- Unless a read or a write failed, the call returns this result exactly if P holds of what the
-- reader had left.
abbrev pub IsExactly : {T : Type 0} → Result T CarrierError → Type 0 → (List ℕ → Type 0)
    → Option (List ℕ) → Type 0
IsExactly result answer P None = ⊤
IsExactly result answer P (Some stream) = (HasFailed result → ⊥) → (answer ↔ P stream)
