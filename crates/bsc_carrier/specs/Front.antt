-- What a stream begins with: a whole record, a part of one, or a wrong length.
use Rattle.std.specs.Int.{w16, from_be_bytes}
use Rattle.std.specs.Prelude.{◌≡◌, ℕ, ◌+◌, ◌<◌, ◌≤◌, List, ◌++◌, length, take}
use Rattle.bsc_carrier.specs.Record.{IsLength, IsWrongLength, IsCarried, socket_record}

-- The number that the first two octets state, the most significant first.
abbrev pub stated_length : List ℕ → ℕ
stated_length stream = from_be_bytes w16 (take 2 stream)

-- The stream begins with a whole record.
abbrev pub BeginsRecord : List ℕ → Type 0
BeginsRecord stream = (octets : List ℕ) × (rest : List ℕ) × IsCarried octets
    × (stream ≡ socket_record octets ++ rest)

-- The stream is less than a record: it has fewer than two octets, or it states a length that a
-- record may have and has fewer octets than that.
abbrev pub IsPartial : List ℕ → Type 0
IsPartial stream = 2 ≤ length stream → IsLength (stated_length stream)
    × (length stream < 2 + stated_length stream)

-- The stream begins with a length of 0 or more than 2,048.
abbrev pub HasWrongLength : List ℕ → Type 0
HasWrongLength stream = (2 ≤ length stream) × IsWrongLength (stated_length stream)

-- The stream ends within a record: it is less than a record, and not empty.
abbrev pub EndsWithin : List ℕ → Type 0
EndsWithin stream = (1 ≤ length stream) × IsPartial stream
