-- The socket record: how the octets of one transmission stand on a byte stream.
use Rattle.std.specs.Int.{w16, to_be_bytes}
use Rattle.std.specs.Prelude.{◌≡◌, ℕ, ◌<◌, ◌≤◌, ◌⊎◌, List, ◌++◌, length}
use Rattle.bsc_carrier.specs.declared.limits.TheConstants.{MAX_RECORD}

-- A number of octets that a record may carry.
abbrev pub IsLength : ℕ → Type 0
IsLength n = (1 ≤ n) × (n ≤ MAX_RECORD)

-- A number of octets that no record carries.
abbrev pub IsWrongLength : ℕ → Type 0
IsWrongLength n = (n ≡ 0) ⊎ (MAX_RECORD < n)

-- Octets that a record may carry.
abbrev pub IsCarried : List ℕ → Type 0
IsCarried octets = IsLength (length octets)

-- The record of these octets: their number in two octets, the most significant first, and then the
-- octets.
abbrev pub socket_record : List ℕ → List ℕ
socket_record octets = to_be_bytes w16 (length octets) ++ octets
