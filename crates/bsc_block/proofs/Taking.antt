-- How many records the next block takes.
use Rattle.std.proofs.Common.{◌≡◌, ◌≢◌, ◌⊎◌, inl, inr, ℕ, zero, suc, ◌+◌, ◌<◌, ◌≤◌, arith, refl}
use Rattle.std.proofs.Common.{List, []}
use Rattle.std.proofs.Common.{◌∷◌, length, Bool, true, false, min, nat_le, nat_lt, if◌then◌else◌}
use Rattle.std.proofs.lemmas.Bool.{leb-true, le-leb, cases_lt}
use Rattle.bsc_block.specs.Format.{FormatValue, IsFormat}
use Rattle.bsc_block.specs.Blocks.{front_cost, greatest, taken, IsTaken, AreShort}
use Rattle.bsc_block.proofs.Fronts.{front_cost_le}
use Rattle.bsc_frame.specs.declared.limits.TheConstants.{MAX_UNITS}

pub greatest_le : (p : ℕ → Bool) (n : ℕ) → greatest p n ≤ n
greatest_le p zero = omega arith
greatest_le p (suc n) =
    elim (p (suc n)) as (λ b. (if b then suc n else greatest p n) ≤ suc n)
    [ true ↦ omega arith | false ↦ omega (arith, greatest_le p n) ]

pub greatest_passes : (p : ℕ → Bool) (n : ℕ) → p 0 ≡ true → p (greatest p n) ≡ true
greatest_passes p zero z = z
greatest_passes p (suc n) z = split (p (suc n)) refl (greatest_passes p n z)
  where
    split : (b : Bool) → p (suc n) ≡ b → p (greatest p n) ≡ true
        → p (if b then suc n else greatest p n) ≡ true
    split true e below = e
    split false e below = below

pub greatest_above : (p : ℕ → Bool) (n j : ℕ) → j ≤ n → p j ≡ true → j ≤ greatest p n
greatest_above p zero j l e = l
greatest_above p (suc n) j l e = split (p (suc n)) refl (λ below. greatest_above p n j below e)
  where
    last : p (suc n) ≡ false → (n < j) ⊎ (j ≤ n) → (j ≤ n → j ≤ greatest p n) → j ≤ greatest p n
    last f (inr below) above = above below
    last f (inl at) above = let same : j ≡ suc n = omega arith in let passes : p (suc n) ≡ true =
        rw (← same) e in absurd (cc)

    split : (b : Bool) → p (suc n) ≡ b → (j ≤ n → j ≤ greatest p n) → j
        ≤ (if b then suc n else greatest p n)
    split true f above = l
    split false f above = last f (cases_lt n j) above

fits_none : (f : FormatValue) (rs : List (List ℕ)) → front_cost f 0 rs ≤ f.block_chars
fits_none f rs = omega arith

-- The definition gives a number that the relation describes.
pub taken_is_taken : (f : FormatValue) (rs : List (List ℕ)) → IsTaken f rs (taken f rs)
taken_is_taken f rs =
    let p : ℕ → Bool = λ k. nat_le (front_cost f k rs) f.block_chars in
    let most : taken f rs ≤ min MAX_UNITS (length rs) = greatest_le p (min MAX_UNITS (length rs)) in
    let passes : p (taken f rs) ≡ true =
    greatest_passes p (min MAX_UNITS (length rs))
    (le-leb (front_cost f 0 rs) f.block_chars (fits_none f rs)) in
    record {
      few = omega arith;
      there = omega arith;
      fits = leb-true (front_cost f (taken f rs) rs) f.block_chars passes;
      greatest =
          λ j few there fits. greatest_above p (min MAX_UNITS (length rs)) j (omega arith)
          (le-leb (front_cost f j rs) f.block_chars fits);
    }

-- The relation describes no other number.
pub is_taken_taken : (f : FormatValue) (rs : List (List ℕ)) (k : ℕ) → IsTaken f rs k → k ≡ taken f rs
is_taken_taken f rs k t =
    let u : IsTaken f rs (taken f rs) = taken_is_taken f rs in
    omega (arith, t.greatest (taken f rs) u.few u.there u.fits, u.greatest k t.few t.there t.fits)

-- A front that fits is the block if it is the whole list, or has seven records, or does not fit
-- with one more record.
pub stops_there : (f : FormatValue) (rs : List (List ℕ)) (k : ℕ) → k ≤ MAX_UNITS → k ≤ length rs
    → front_cost f k rs ≤ f.block_chars
    → (MAX_UNITS ≤ k) ⊎ (length rs ≤ k) ⊎ (f.block_chars < front_cost f (k + 1) rs) → IsTaken f rs k
stops_there f rs k few there fits stop =
    record { few = few; there = there; fits = fits; greatest = λ j l m c. above j l m c stop }
  where
    above : (j : ℕ) → j ≤ MAX_UNITS → j ≤ length rs → front_cost f j rs ≤ f.block_chars
        → (MAX_UNITS ≤ k) ⊎ (length rs ≤ k) ⊎ (f.block_chars < front_cost f (k + 1) rs) → j ≤ k
    above j l m c (inl seven) = omega arith
    above j l m c (inr (inl all)) = omega arith
    above j l m c (inr (inr past)) = within (cases_lt k j)
      where
        within : (k < j) ⊎ (j ≤ k) → j ≤ k
        within (inr below) = below
        within (inl above) = absurd (omega (arith, front_cost_le f (k + 1) j rs (omega arith)))

-- A record that is no longer than the full length fits a block.
pub taken_some : (f : FormatValue) (rs : List (List ℕ)) (k : ℕ) → IsFormat f → AreShort f.full rs
    → IsTaken f rs k → rs ≢ [] → 1 ≤ k
taken_some f [] k i s t n = absurd (n refl)
taken_some f (r ∷ rs) k i s t n =
    t.greatest 1 (omega arith) (omega arith) (one (nat_lt (length r) f.full))
  where
    one : (b : Bool) → 0 + (length r + 1 + (if b then 1 else 0)) ≤ f.block_chars
    one true = omega (arith, s.0, i.full_to, i.block_from)
    one false = omega (arith, s.0, i.full_to, i.block_from)
