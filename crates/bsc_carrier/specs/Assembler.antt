-- What an assembler holds, and what one piece of the stream does to it.
use Rattle.std.specs.Int.{w16, to_be_bytes}
use Rattle.std.specs.Prelude.{◌≡◌, ℕ, ◌+◌, ◌-◌, ◌≤◌, ◌⊎◌, Bool, true, false, ◌&&◌, nat_lt, nat_le}
use Rattle.std.specs.Prelude.{if◌then◌else◌, List, [], ◌++◌, length, take, drop, Result, Ok, Err}
use Rattle.bsc_carrier.specs.Record.{IsLength, IsCarried, socket_record}
use Rattle.bsc_carrier.specs.Front.{stated_length, IsPartial, HasWrongLength}
use Rattle.bsc_carrier.specs.declared.limits.TheConstants.{MAX_RECORD}
use Rattle.bsc_carrier.specs.declared.error.CarrierError.{CarrierError}
use Rattle.bsc_carrier.specs.declared.error.CarrierError.TheVariants.{Length, Short, Device}
use Rattle.bsc_carrier.specs.declared.error.CarrierError.TheVariants.{Unequal}

-- The octets that have arrived since the last complete record, and those that this record carried.
pub record AssemblerValue : Type 0 where
  pub begun : List ℕ
  pub complete : List ℕ

-- What may have arrived since the last complete record: part of a record, or only a wrong length.
abbrev pub IsBegun : List ℕ → Type 0
IsBegun begun = IsPartial begun ⊎ (HasWrongLength begun × (length begun ≡ 2))

-- The number of octets missing to the end of the length, or once that is there to the end of the
-- record; 0 after a wrong length.
abbrev pub wanted_after : List ℕ → ℕ
wanted_after begun =
    if nat_lt (length begun) 2 then 2 - length begun
    else (if nat_le 1 (stated_length begun) && nat_le (stated_length begun) MAX_RECORD
    then 2 + stated_length begun - length begun
    else 0)

-- Whether these octets from the beginning of a record reach its end, or state a wrong length.
abbrev pub IsWhole : List ℕ → Result Bool CarrierError → Type 0
-- The first two octets spell a length that a record may have, and at least as many octets follow.
IsWhole begun (Ok true) =
    (2 ≤ length begun) × IsLength (stated_length begun)
    × (to_be_bytes w16 (stated_length begun) ≡ take 2 begun)
    × (2 + stated_length begun ≤ length begun)
IsWhole begun (Ok false) = IsPartial begun
IsWhole begun (Err Length) = HasWrongLength begun
IsWhole begun (Err Short) = ⊥
IsWhole begun (Err (Device why)) = ⊥
IsWhole begun (Err Unequal) = ⊥

-- What has begun grows by the octets that were taken of the piece. They complete the record, or
-- they are the whole piece and complete nothing, or there is a wrong length.
abbrev pub Gathers : List ℕ → List ℕ → Result (ℕ × Bool) CarrierError → List ℕ → Type 0
Gathers old piece (Ok (taken, true)) new =
    (taken ≤ length piece) × (new ≡ old ++ take taken piece) × IsCarried (drop 2 new)
    × (new ≡ socket_record (drop 2 new))
Gathers old piece (Ok (taken, false)) new = (taken ≡ length piece) × (new ≡ old ++ piece)
    × IsPartial new
Gathers old piece (Err Length) new = (new ≡ take 2 (old ++ piece)) × HasWrongLength new
Gathers old piece (Err Short) new = ⊥
Gathers old piece (Err (Device why)) new = ⊥
Gathers old piece (Err Unequal) new = ⊥

-- What feeding a piece returns, and what the assembler holds after it.
abbrev pub Fed : AssemblerValue → List ℕ → Result (ℕ × Bool) CarrierError → AssemblerValue → Type 0
-- The octets taken complete a record.
Fed old piece (Ok (taken, true)) new =
    (taken ≤ length piece) × IsCarried new.complete
    × (old.begun ++ take taken piece ≡ socket_record new.complete) × (new.begun ≡ [])
-- The whole piece is taken, and no record is complete.
Fed old piece (Ok (taken, false)) new =
    (taken ≡ length piece) × IsPartial new.begun × (new.begun ≡ old.begun ++ piece)
    × (new.complete ≡ old.complete)
-- There is a wrong length, in this piece or before it.
Fed old piece (Err Length) new =
    HasWrongLength new.begun × (new.begun ≡ take 2 (old.begun ++ piece))
    × (new.complete ≡ old.complete)
Fed old piece (Err Short) new = ⊥
Fed old piece (Err (Device why)) new = ⊥
Fed old piece (Err Unequal) new = ⊥
