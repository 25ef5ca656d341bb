-- Lists of records of which the first ones are forgotten.
use Rattle.std.proofs.Common.{◌≡◌, ℕ, zero, suc, ◌+◌, ◌-◌, ◌<◌, ◌≤◌, arith, refl, ap, sym, ◌∙◌}
use Rattle.std.proofs.Common.{List, [], ◌∷◌, length, drop, slice_get, Some}
use Rattle.std.proofs.lemmas.List.{length-drop}
use Rattle.bsc_block.specs.Blocks.{AreShort}
use Rattle.bsc_block.specs.Records.{after_forgotten, forgotten}
use Rattle.bsc_frame.proofs.Elements.{all_drop}

pub length_after_forgotten : (n : ℕ) (rs : List (List ℕ)) → length (after_forgotten n rs)
    ≡ n + length rs
length_after_forgotten zero rs = omega arith
length_after_forgotten (suc n) rs = omega (arith, length_after_forgotten n rs)

-- A forgotten record has no characters.
pub forgotten_at : (n : ℕ) (rs : List (List ℕ)) (i : ℕ) → i < n
    → slice_get (after_forgotten n rs) i ≡ Some []
forgotten_at zero rs i l = absurd (omega arith)
forgotten_at (suc n) rs zero l = refl
forgotten_at (suc n) rs (suc i) l = forgotten_at n rs i (omega arith)

-- The other records follow the forgotten ones.
pub kept_at : (n : ℕ) (rs : List (List ℕ)) (i : ℕ) → n ≤ i
    → slice_get (after_forgotten n rs) i ≡ slice_get rs (i - n)
kept_at zero rs i l = ap (λ k. slice_get rs k) (omega arith)
kept_at (suc n) rs zero l = absurd (omega arith)
kept_at (suc n) rs (suc i) l =
    kept_at n rs i (omega arith) ∙ ap (λ k. slice_get rs k) (omega arith)

-- What is forgotten already stays so.
pub forgotten_fewer : (n k : ℕ) (rs : List (List ℕ)) → k ≤ n
    → forgotten k (after_forgotten n rs) ≡ after_forgotten n rs
forgotten_fewer n zero rs l = refl
forgotten_fewer zero (suc k) rs l = absurd (omega arith)
forgotten_fewer (suc n) (suc k) rs l =
    ap (λ rest. [] ∷ rest) (forgotten_fewer n k rs (omega arith))

-- More records are forgotten by removing the first ones that are not.
forgotten_more : (n k : ℕ) (rs : List (List ℕ)) → n ≤ k
    → forgotten k (after_forgotten n rs) ≡ after_forgotten k (drop (k - n) rs)
forgotten_more zero k rs l = ap (λ m. after_forgotten k (drop m rs)) (omega arith)
forgotten_more (suc n) zero rs l = absurd (omega arith)
forgotten_more (suc n) (suc k) rs l =
    ap (λ rest. [] ∷ rest) (forgotten_more n k rs (omega arith))
    ∙ ap (λ m. after_forgotten (suc k) (drop m rs)) (omega arith)

-- The records once more are forgotten, with their number as it is known: that of all records less
-- that of those that are not forgotten.
pub forgets_more : (count n k : ℕ) (rest kept : List (List ℕ)) → count ≡ n + length rest → n ≤ k
    → k ≤ count → kept ≡ drop (k - n) rest
    → after_forgotten (count - length kept) kept ≡ forgotten k (after_forgotten n rest)
forgets_more count n k rest kept all more there e =
    let left : count - length kept ≡ k =
    omega (arith, all, ap (λ l. length l) e, length-drop (k - n) rest) in
    rw (left, e) (sym (forgotten_more n k rest more))

pub length_forgotten : (n : ℕ) (rs : List (List ℕ)) → n ≤ length rs
    → length (forgotten n rs) ≡ length rs
length_forgotten n rs l =
    omega (arith, length_after_forgotten n (drop n rs), length-drop n rs)

-- The records from a place on stay as they are when earlier ones are forgotten.
pub drop_forgotten : (n k : ℕ) (rs : List (List ℕ)) → n ≤ k → k ≤ length rs
    → drop k (forgotten n rs) ≡ drop k rs
drop_forgotten zero k rs l m = refl
drop_forgotten (suc n) zero rs l m = absurd (omega arith)
drop_forgotten (suc n) (suc k) [] l m = absurd (omega arith)
drop_forgotten (suc n) (suc k) (r ∷ rs) l m = drop_forgotten n k rs (omega arith) (omega arith)

-- No record grows longer.
short_after_forgotten : (full n : ℕ) (rs : List (List ℕ)) → AreShort full rs
    → AreShort full (after_forgotten n rs)
short_after_forgotten full zero rs s = s
short_after_forgotten full (suc n) rs s = (omega arith, short_after_forgotten full n rs s)

pub short_forgotten : (full n : ℕ) (rs : List (List ℕ)) → AreShort full rs
    → AreShort full (forgotten n rs)
short_forgotten full n rs s =
    short_after_forgotten full n (drop n rs) (all_drop (λ r. length r ≤ full) n rs s)
