-- What the first records of a list count together.
use Rattle.std.proofs.Common.{◌≡◌, ℕ, ◌+◌, ◌<◌, ◌≤◌, arith, refl, List, length, take, get_or}
use Rattle.std.proofs.lemmas.List.Sums.{sum_by_more, sum_by-take-le}
use Rattle.std.proofs.lemmas.List.{take-take}
use Rattle.bsc_block.specs.Format.{FormatValue}
use Rattle.bsc_block.specs.Blocks.{cost, front_cost}

-- One more record adds its count.
pub front_cost_more : (f : FormatValue) (k : ℕ) (rs : List (List ℕ)) (d : List ℕ) → k < length rs
    → front_cost f (k + 1) rs ≡ front_cost f k rs + cost f (get_or rs k d)
front_cost_more f k rs d l = sum_by_more (cost f) rs k d l

-- More records do not count less.
pub front_cost_le : (f : FormatValue) (j k : ℕ) (rs : List (List ℕ)) → j ≤ k
    → front_cost f j rs ≤ front_cost f k rs
front_cost_le f j k rs l =
    let part : front_cost f j rs ≡ front_cost f j (take k rs) = rw (take-take j k rs l) refl in
    omega (arith, part, sum_by-take-le (cost f) (take k rs) j)
