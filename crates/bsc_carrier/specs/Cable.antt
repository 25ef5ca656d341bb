-- The ends of a set of connections in one process, and what calls do to them.
use Rattle.std.specs.Prelude.{⊤, ◌≡◌, ◌≢◌, ℕ, List, ◌++◌, Option, Some, Result, Err, IfSome, IsOk}
use Rattle.std.specs.Prelude.{slice_get, slice_set, Any}
use Rattle.std.specs.Io.KnownBytes.{Appends, Consumes}
use Rattle.bsc_carrier.specs.Record.{IsCarried, socket_record}
use Rattle.bsc_carrier.specs.Front.{BeginsRecord, IsPartial, HasWrongLength}
use Rattle.bsc_carrier.specs.KnownOctets.{IsExactly}
use Rattle.bsc_carrier.specs.declared.error.CarrierError.{CarrierError}
use Rattle.bsc_carrier.specs.declared.error.CarrierError.TheVariants.{Length, Short, Device}
use Rattle.bsc_carrier.specs.declared.error.CarrierError.TheVariants.{Unequal}

-- The control station's ends, the terminals' ends, and the first error.
pub record CableValue (S : Type 0) : Type 0 where
  pub control_ends : List S
  pub terminal_ends : List S
  pub fault : Option CarrierError

-- The record of these octets was written at an end.
abbrev pub Takes : {S : Type 0} → (S → Option (List ℕ)) → List ℕ → S → S → Type 0
Takes contents octets before after =
    Appends (contents before) (contents after) (socket_record octets)

-- The record of these octets was read at an end.
abbrev pub Gives : {S : Type 0} → (S → Option (List ℕ)) → List ℕ → S → S → Type 0
Gives remaining octets before after =
    Consumes (remaining before) (remaining after) (socket_record octets)

-- The element at this place changes as P says, and all others are unchanged.
abbrev pub ChangesAt : {S : Type 0} → ℕ → (S → S → Type 0) → List S → List S → Type 0
ChangesAt {S} place P old new = (before : S) × (after : S) × (slice_get old place ≡ Some before)
    × (new ≡ slice_set old place after) × P before after

-- What a call that reads one record returns, at an end that has this stream left: each result
-- exactly when it is due.
pub record AnswersFor {T : Type 0} (result : Result T CarrierError)
    (stream : Option (List ℕ)) : Type 0 where
  pub whole : IsExactly result (IsOk result) BeginsRecord stream
  pub wrong : IsExactly result (result ≡ Err Length) HasWrongLength stream
  pub short : IsExactly result (result ≡ Err Short) IsPartial stream
  pub equal : result ≢ Err Unequal

-- The stream, if it is known, begins with the record of these octets.
abbrev pub BeginsWith : List ℕ → Option (List ℕ) → Type 0
BeginsWith octets stream = IsCarried octets
    × IfSome stream (λ all. (rest : List ℕ) × (all ≡ socket_record octets ++ rest))

-- One of these ends begins with the record of other octets.
abbrev pub BeginsOther : {S : Type 0} → (S → Option (List ℕ)) → List ℕ → List S → Type 0
BeginsOther remaining octets ends = (other : List ℕ) × (octets ≢ other)
    × Any (λ end. BeginsWith other (remaining end)) ends

-- The cause of an error of a call that reads one record at each of these ends, as far as the
-- streams that they have left are known.
abbrev pub Explains : {S : Type 0} → (S → Option (List ℕ)) → CarrierError → List S → Type 0
Explains remaining Length ends = Any (λ end. IfSome (remaining end) HasWrongLength) ends
Explains remaining Short ends = Any (λ end. IfSome (remaining end) IsPartial) ends
Explains remaining (Device why) ends = ⊤
-- Two ends begin with different records.
Explains remaining Unequal ends =
    (octets : List ℕ) × Any (λ end. BeginsWith octets (remaining end)) ends
    × BeginsOther remaining octets ends
