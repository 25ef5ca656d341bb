-- Lists that are divided by the ends of their parts, without their first parts.
use Rattle.std.proofs.Common.{◌≡◌, ℕ, zero, suc, ◌+◌, ◌-◌, ◌<◌, ◌≤◌, arith, refl, ap, sym, ◌∙◌}
use Rattle.std.proofs.Common.{List, [], ◌∷◌, length, take, drop, map, get_or}
use Rattle.std.proofs.lemmas.List.{drop-drop, length-drop, take_all}
use Rattle.std.proofs.lemmas.List.Edits.{take-paste}
use Rattle.std.specs.List.{copy_within}
use Rattle.bsc_block.specs.Records.{IsRecord}
use Rattle.bsc_block.specs.Pieces.{piece, pieces, Ascend, AreRecords}
use Rattle.bsc_block.proofs.Pieces.{ascend_le}
use Rattle.bsc_frame.proofs.Elements.{all_drop}

-- The ends, each lower by m.
abbrev pub lowered : ℕ → List ℕ → List ℕ
lowered m es = map (λ e. e - m) es

-- A part of what follows the first m characters, by its places there.
piece_lower : (low from to m : ℕ) (cs : List ℕ) → low + m ≡ from → from ≤ to
    → piece low (to - m) (drop m cs) ≡ piece from to cs
piece_lower low from to m cs e l =
    let at : m + low ≡ from = omega arith in
    let long : to - m - low ≡ to - from = omega arith in
    rw (drop-drop low m cs, at, long) refl

pieces_lower : (low from m : ℕ) (es cs : List ℕ) (to : ℕ) → low + m ≡ from → Ascend from es to
    → pieces low (lowered m es) (drop m cs) ≡ pieces from es cs
pieces_lower low from m [] cs to e a = refl
pieces_lower low from m (x ∷ es) cs to e a =
    rw (
      piece_lower low from x m cs e a.0,
      pieces_lower (x - m) x m es cs to (omega (arith, a.0, e)) a.1,
    ) refl

ascend_lower : (low from m : ℕ) (es : List ℕ) (to under : ℕ) → low + m ≡ from → under + m ≡ to
    → Ascend from es to → Ascend low (lowered m es) under
ascend_lower low from m [] to under e u a = omega (arith, a)
ascend_lower low from m (x ∷ es) to under e u a =
    (omega (arith, a.0), ascend_lower (x - m) x m es to under (omega (arith, a.0, e)) u a.1)

-- The ends after one of them ascend from there.
ascend_drop : (from : ℕ) (es : List ℕ) (to k d : ℕ) → Ascend from es to → k < length es
    → Ascend (get_or es k d) (drop (suc k) es) to
ascend_drop from [] to k d a l = absurd (omega arith)
ascend_drop from (x ∷ es) to zero d a l = a.1
ascend_drop from (x ∷ es) to (suc k) d a l = ascend_drop x es to k d a.1 (omega arith)

-- The parts after one of them start where it ends.
drop_pieces : (from : ℕ) (es cs : List ℕ) (k d : ℕ) → k < length es
    → pieces (get_or es k d) (drop (suc k) es) cs ≡ drop (suc k) (pieces from es cs)
drop_pieces from [] cs k d l = absurd (omega arith)
drop_pieces from (x ∷ es) cs zero d l = refl
drop_pieces from (x ∷ es) cs (suc k) d l = drop_pieces x es cs k d (omega arith)

-- What is left without the first records: the ends of the others, lower by the characters that are
-- removed, and the other characters.
pub record IsLeft (es cs : List ℕ) (count m : ℕ) : Type 0 where
  pub within : m ≤ length cs
  pub records : AreRecords (lowered m (drop count es)) (drop m cs)
  pub items : pieces 0 (lowered m (drop count es)) (drop m cs) ≡ drop count (pieces 0 es cs)

left_after : (es cs : List ℕ) (k m d : ℕ) → AreRecords es cs → k < length es → get_or es k d ≡ m
    → IsLeft es cs (suc k) m
left_after es cs k m d h l e =
    let rest : Ascend m (drop (suc k) es) (length cs) =
    rw e at (ascend_drop 0 es (length cs) k d h.cut l) in
    let within : m ≤ length cs = ascend_le m (drop (suc k) es) (length cs) rest in
    let items : pieces 0 (lowered m (drop (suc k) es)) (drop m cs) ≡ drop (suc k) (pieces 0 es cs) =
    pieces_lower 0 m m (drop (suc k) es) cs (length cs) (omega arith) rest
    ∙ rw e at (drop_pieces 0 es cs k d l) in
    record {
      within = within;
      records = record {
        cut =
            ascend_lower 0 m m (drop (suc k) es) (length cs) (length (drop m cs)) (omega arith)
            (omega (arith, within, length-drop m cs)) rest;
        each = rw items (all_drop IsRecord (suc k) (pieces 0 es cs) h.each);
      };
      items = items;
    }

pub left : (es cs : List ℕ) (count m : ℕ) → AreRecords es cs → 1 ≤ count → count ≤ length es
    → m ≡ get_or es (count - 1) m → IsLeft es cs count m
left es cs zero m h some there e = absurd (omega arith)
left es cs (suc k) m h some there e =
    left_after es cs k m m h (omega arith)
    (ap (λ i. get_or es i m) (let same : k ≡ suc k - 1 = omega arith in same) ∙ sym e)

-- What is left of n elements when those after the first m are copied to the front.
pub copied_to_front : {A : Type 0} (left m n : ℕ) (xs : List A) → n ≡ length xs → m ≤ n
    → left ≡ n - m → take left (copy_within xs m n 0) ≡ drop m xs
copied_to_front left m n xs all l e =
    let long : length (drop m xs) ≡ n - m = omega (arith, length-drop m xs, all) in
    ap (λ k. take k (copy_within xs m n 0)) (let same : left ≡ 0 + (n - m) = omega arith in same)
    ∙ take-paste xs 0 (drop m xs) (n - m) (omega arith) (omega (arith, long))
    ∙ take_all (n - m) (drop m xs) (omega (arith, long))
