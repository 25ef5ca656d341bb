-- Blocks: how waiting records become the units of texts, and how units are read back as records.
-- One text carries several records in the manner of the IBM 2780, in which EM ends a record that is
-- not full. The units are the intermediate text blocks of GA27-3004, which ITB divides; in USASCII
-- this character is US. How records are marked and counted is this project's own.
use Rattle.std.specs.Prelude.{ℕ, zero, suc, ◌+◌, ◌≤◌, nat_lt, nat_le, Bool, ◌||◌, if◌then◌else◌}
use Rattle.std.specs.Prelude.{List, [], ◌∷◌, length, take, drop, map, filter, sum_by, min}
use Rattle.std.specs.List.{AllByRecursion}
use Rattle.bsc_frame.specs.Texts.{TextUnit, TextValue}
use Rattle.bsc_frame.specs.declared.text.End.{End}
use Rattle.bsc_block.specs.Format.{FormatValue}
use Rattle.bsc_frame.specs.declared.limits.TheConstants.{MAX_UNITS}

-- The unit of a record: its characters, marked by EM exactly if they are fewer than the full
-- length.
abbrev pub unit_of : ℕ → List ℕ → TextUnit
unit_of full r = record { chars = r; em = nat_lt (length r) full }

-- The text that carries these records in order, with this end.
abbrev pub block_text : FormatValue → List (List ℕ) → End → TextValue
block_text f rs end = record { units = map (unit_of f.full) rs; end = end }

-- No record is longer than the full length.
abbrev pub AreShort : ℕ → List (List ℕ) → Type 0
AreShort full rs = AllByRecursion (λ r. length r ≤ full) rs

-- What a record counts in a block: its characters, one for the ending character, and one for EM if
-- the record is shorter than the full length. Check characters are not counted.
abbrev pub cost : FormatValue → List ℕ → ℕ
cost f r = length r + 1 + (if nat_lt (length r) f.full then 1 else 0)

-- What the first k records count together.
abbrev pub front_cost : FormatValue → ℕ → List (List ℕ) → ℕ
front_cost f k rs = sum_by (cost f) (take k rs)

-- The greatest number up to n that passes; 0 if none does.
abbrev pub greatest : (ℕ → Bool) → ℕ → ℕ
greatest p zero = zero
greatest p (suc n) = if p (suc n) then suc n else greatest p n

-- How many of the waiting records the next block takes: the greatest number, at most the units of a
-- text, whose records count no more than a block may.
abbrev pub taken : FormatValue → List (List ℕ) → ℕ
taken f rs = greatest (λ k. nat_le (front_cost f k rs) f.block_chars) (min MAX_UNITS (length rs))

-- The next block takes k of the waiting records: k is within the limits, and no greater number is.
pub record IsTaken (f : FormatValue) (rs : List (List ℕ)) (k : ℕ) : Type 0 where
  pub few : k ≤ MAX_UNITS
  pub there : k ≤ length rs
  pub fits : front_cost f k rs ≤ f.block_chars
  pub greatest : (j : ℕ) → j ≤ MAX_UNITS → j ≤ length rs → front_cost f j rs ≤ f.block_chars → j ≤ k

-- The first n blocks of the waiting records, or all of them if there are fewer.
abbrev pub cut : ℕ → FormatValue → List (List ℕ) → List (List (List ℕ))
cut zero f rs = []
cut (suc n) f [] = []
cut (suc n) f (r ∷ rs) =
    take (taken f (r ∷ rs)) (r ∷ rs) ∷ cut n f (drop (taken f (r ∷ rs)) (r ∷ rs))

-- All blocks of the waiting records. There are no more blocks than records.
abbrev pub blocks : FormatValue → List (List ℕ) → List (List (List ℕ))
blocks f rs = cut (length rs) f rs

-- Whether a unit holds a record. A unit without characters and without EM holds none.
abbrev pub holds_record : TextUnit → Bool
holds_record u = u.em || nat_lt 0 (length u.chars)

-- The records of a text: the characters of each unit that holds one, in order.
abbrev pub records_in : List TextUnit → List (List ℕ)
records_in us = map (λ u. u.chars) (filter holds_record us)
