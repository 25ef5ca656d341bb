-- How many blocks are left after the next one.
use Rattle.std.proofs.Common.{◌≡◌, ◌≢◌, ℕ, suc, ◌+◌, ◌-◌, ◌<◌, ◌≤◌, List, [], ◌∷◌, length, take}
use Rattle.std.proofs.Common.{drop, sym, ◌∙◌, ap, arith}
use Rattle.std.proofs.lemmas.List.{drop-drop, length-drop}
use Rattle.bsc_block.specs.Format.{FormatValue, IsFormat}
use Rattle.bsc_block.specs.Blocks.{blocks, taken, AreShort, IsTaken}

-- One more block takes some of the records from this place on, and leaves one block less.
pub record TakesOne (f : FormatValue) (rs : List (List ℕ)) (at k : ℕ) : Type 0 where
  pub inside : at + k ≤ length rs
  pub some : 1 ≤ k
  pub count : suc (length (blocks f (drop (at + k) rs))) ≡ length (blocks f (drop at rs))

not_nil : (rs : List (List ℕ)) → 0 < length rs → rs ≢ []
not_nil rs less is = let none : length rs ≡ 0 = ap (λ (xs : List (List ℕ)). length xs) is in
    absurd (omega (arith, less, none))

pub one_block : ((f : FormatValue) (rs : List (List ℕ)) → IsTaken f rs (taken f rs))
    → ((f : FormatValue) (rs : List (List ℕ)) → IsFormat f → AreShort f.full rs → rs ≢ [] → 1
    ≤ taken f rs) →
    ((f : FormatValue) (rs : List (List ℕ)) → IsFormat f → AreShort f.full rs → rs ≢ []
    → blocks f rs ≡ take (taken f rs) rs ∷ blocks f (drop (taken f rs) rs)) →
    ((full k : ℕ) (rs : List (List ℕ)) → AreShort full rs → AreShort full (drop k rs)) →
    (f : FormatValue) (rs : List (List ℕ)) (at k : ℕ) → IsFormat f → AreShort f.full rs → at
    < length rs → k ≡ taken f (drop at rs) → TakesOne f rs at k
one_block taken_is some next rest f rs at k format short less is =
    let ws : List (List ℕ) = drop at rs in
    let count : length ws ≡ length rs - at = length-drop at rs in
    let wait : ws ≢ [] = not_nil ws (omega (arith, count, less)) in
    let within : taken f ws ≤ length ws = (taken_is f ws).there in
    let least : 1 ≤ taken f ws = some f ws format (rest f.full at rs short) wait in
    let cut : length (blocks f ws) ≡ suc (length (blocks f (drop (taken f ws) ws))) =
    ap (λ (bs : List (List (List ℕ))). length bs)
    (next f ws format (rest f.full at rs short) wait) in
    let left : drop (taken f ws) ws ≡ drop (at + k) rs = ap (λ (n : ℕ). drop n ws) (sym is)
    ∙ drop-drop k at rs in
    record {
      inside = omega (arith, is, within, count, less);
      some = omega (arith, is, least);
      count = sym (cut ∙ ap (λ (xs : List (List ℕ)). suc (length (blocks f xs))) left);
    }
