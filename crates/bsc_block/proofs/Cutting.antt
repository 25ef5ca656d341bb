-- How waiting records are divided into blocks.
use Rattle.std.proofs.Common.{◌≡◌, ◌≢◌, ℕ, zero, suc, ◌≤◌, arith, refl, ap, List, [], ◌∷◌, length}
use Rattle.std.proofs.Common.{take, drop}
use Rattle.std.proofs.Common.{length-drop}
use Rattle.bsc_block.specs.Format.{FormatValue, IsFormat}
use Rattle.bsc_block.specs.Blocks.{taken, cut, blocks, AreShort}
use Rattle.bsc_frame.proofs.Elements.{all_drop}
use Rattle.bsc_block.proofs.Taking.{taken_is_taken, taken_some}

-- The records after the next block.
records_after_block : FormatValue → List (List ℕ) → List (List ℕ)
records_after_block f rs = drop (taken f rs) rs

length_rest : (f : FormatValue) (r : List ℕ) (rs : List (List ℕ)) → IsFormat f
    → AreShort f.full (r ∷ rs)
    → length (records_after_block f (r ∷ rs)) ≤ length rs
unfolding records_after_block
length_rest f r rs i s =
    omega (
      arith,
      length-drop (taken f (r ∷ rs)) (r ∷ rs),
      taken_some f (r ∷ rs) (taken f (r ∷ rs)) i s (taken_is_taken f (r ∷ rs)) (λ e. cc),
    )

short_rest : (f : FormatValue) (rs : List (List ℕ)) → AreShort f.full rs
    → AreShort f.full (records_after_block f rs)
unfolding records_after_block
short_rest f rs s = all_drop (λ r. length r ≤ f.full) (taken f rs) rs s

-- There are no more blocks than records, so a higher limit changes nothing.
cut_length : (n m : ℕ) (f : FormatValue) (rs : List (List ℕ)) → IsFormat f → AreShort f.full rs
    → length rs ≤ n → length rs ≤ m → cut n f rs ≡ cut m f rs
unfolding records_after_block
cut_length zero zero f rs i s l k = refl
cut_length zero (suc m) f [] i s l k = refl
cut_length zero (suc m) f (r ∷ rs) i s l k = absurd (omega arith)
cut_length (suc n) zero f [] i s l k = refl
cut_length (suc n) zero f (r ∷ rs) i s l k = absurd (omega arith)
cut_length (suc n) (suc m) f [] i s l k = refl
cut_length (suc n) (suc m) f (r ∷ rs) i s l k =
    let shorter : length (records_after_block f (r ∷ rs)) ≤ length rs = length_rest f r rs i s in
    ap (λ bs. take (taken f (r ∷ rs)) (r ∷ rs) ∷ bs)
    (cut_length n m f (records_after_block f (r ∷ rs)) i (short_rest f (r ∷ rs) s) (omega arith) (omega arith))

pub blocks_next : (f : FormatValue) (rs : List (List ℕ)) → IsFormat f → AreShort f.full rs → rs ≢ []
    → blocks f rs ≡ take (taken f rs) rs ∷ blocks f (drop (taken f rs) rs)
unfolding records_after_block
blocks_next f [] i s n = absurd (n refl)
blocks_next f (r ∷ rs) i s n =
    let shorter : length (records_after_block f (r ∷ rs)) ≤ length rs = length_rest f r rs i s in
    ap (λ bs. take (taken f (r ∷ rs)) (r ∷ rs) ∷ bs)
    (cut_length (length rs) (length (records_after_block f (r ∷ rs))) f (records_after_block f (r ∷ rs)) i
    (short_rest f (r ∷ rs) s) (omega arith) (omega arith))
