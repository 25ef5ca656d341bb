-- Lists of records as they are kept: the characters of all of them in one list, and the place at
-- which each ends in another. This project's own.
use Rattle.std.specs.Prelude.{◌≡◌, ℕ, zero, suc, ◌-◌, ◌≤◌, Bool, List, [], ◌∷◌, length, take, drop}
use Rattle.std.specs.List.{AllByRecursion}
use Rattle.bsc_block.specs.Records.{IsRecord}

-- What contracts see of packed records: the records in order, and whether seven more of any length
-- fit without allocating memory.
pub record PackedValue : Type 0 where
  pub items : List (List ℕ)
  pub room : Bool

-- The part of a list from one place up to another.
abbrev pub piece : ℕ → ℕ → List ℕ → List ℕ
piece from to cs = take (to - from) (drop from cs)

-- The parts of a list from a place on, up to each of these ends.
abbrev pub pieces : ℕ → List ℕ → List ℕ → List (List ℕ)
pieces from [] cs = []
pieces from (e ∷ es) cs = piece from e cs ∷ pieces e es cs

-- The place at which the part of this number starts: the end of the one before.
abbrev pub start_of : ℕ → List ℕ → ℕ → ℕ
start_of from es zero = from
start_of from [] (suc i) = from
start_of from (e ∷ es) (suc i) = start_of e es i

-- These ends ascend from a place to another.
abbrev pub Ascend : ℕ → List ℕ → ℕ → Type 0
Ascend from [] to = from ≡ to
Ascend from (e ∷ es) to = (from ≤ e) × Ascend e es to

-- The ends divide all characters into records.
pub record AreRecords (ends chars : List ℕ) : Type 0 where
  pub cut : Ascend 0 ends (length chars)
  pub each : AllByRecursion IsRecord (pieces 0 ends chars)
