-- The check of a unit (GA27-3004: longitudinal redundancy checking).
use Rattle.std.specs.Prelude.{ℕ, ◌==◌, if◌then◌else◌, List, [], ◌∷◌, Option, Some, None}
use Rattle.bsc_octet.specs.Octet.{odd_octet, longitudinal_sum}

-- The check of codes, which is one octet that carries their longitudinal sum with odd parity, and
-- the octets after it.
abbrev pub check_then : List ℕ → List ℕ → List ℕ
check_then codes rest = odd_octet (longitudinal_sum codes) ∷ rest

-- The check of codes, with nothing after it.
abbrev pub check : List ℕ → List ℕ
check codes = check_then codes []

-- The octets after the check of the codes, if they begin with it.
abbrev pub after_check : List ℕ → List ℕ → Option (List ℕ)
after_check codes [] = None
after_check codes (k ∷ rest) = if odd_octet (longitudinal_sum codes) == k then Some rest else None
