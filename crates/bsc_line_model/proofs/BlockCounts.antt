-- How many blocks the waiting records of a queue make, and what the first block is.
use Rattle.std.proofs.Common.{◌≡◌, ◌≢◌, ℕ, suc, ◌<◌, ◌≤◌, Bool, true, false, List, [], ◌∷◌, length}
use Rattle.std.proofs.Common.{take, drop, nat_eq, Some, refl, sym, ◌∙◌, ap, subst, arith}
use Rattle.std.proofs.Common.{if◌then◌else◌}
use Rattle.std.proofs.lemmas.Bool.Decides.{nat_tests}
use Rattle.std.proofs.lemmas.List.{drop-drop, drop_all, length-drop}
use Rattle.bsc_frame.specs.declared.text.End.{End}
use Rattle.bsc_frame.specs.declared.text.End.TheVariants.{Etb, Etx}
use Rattle.bsc_block.specs.Format.{FormatValue, IsFormat}
use Rattle.bsc_block.specs.Blocks.{blocks, taken, AreShort, IsTaken}
use Rattle.bsc_spool.specs.declared.queue.Next.{Next}
use Rattle.bsc_spool.specs.Queue.{QueueValue, IsQueue, waiting, with_known, next_block, next_after}
use Rattle.bsc_line_model.specs.Rounds.{block_count}

-- how waiting records are cut into blocks: the laws of blocks
pub record CutLaws : Type 0 where
  pub taken_is : (f : FormatValue) (rs : List (List ℕ)) → IsTaken f rs (taken f rs)
  pub none : (f : FormatValue) → blocks f [] ≡ []
  pub next : (f : FormatValue) (rs : List (List ℕ)) → IsFormat f → AreShort f.full rs → rs ≢ []
      → blocks f rs ≡ take (taken f rs) rs ∷ blocks f (drop (taken f rs) rs)
  pub rest : (full k : ℕ) (rs : List (List ℕ)) → AreShort full rs → AreShort full (drop k rs)

-- no block is left after the last block, and some are left after any other
abbrev pub IsEnd : End → ℕ → Type 0
IsEnd Etx n = n ≡ 0
IsEnd Etb n = (k : ℕ) × (n ≡ suc k)

-- the first of n + 1 blocks
pub record HasFirstBlock (q : QueueValue) (n : ℕ) : Type 0 where
  pub next : Next
  pub is : next_block q ≡ Some next
  pub rest : block_count (with_known q next.count) ≡ n
  pub end : IsEnd next.end n

-- a list with an element is not empty
not_nil : (r : List ℕ) (rs : List (List ℕ)) → r ∷ rs ≢ []
not_nil r rs e = cc

pub blocks_of_some_records : (laws : CutLaws) (f : FormatValue) (rs : List (List ℕ)) → IsFormat f
    → AreShort f.full rs → 0 < length rs → (k : ℕ) × (length (blocks f rs) ≡ suc k)
blocks_of_some_records laws f [] format short less = absurd (omega arith)
blocks_of_some_records laws f (r ∷ rs) format short less = (
  length (blocks f (drop (taken f (r ∷ rs)) (r ∷ rs))),
  ap (λ (bs : List (List (List ℕ))). length bs)
      (laws.next f (r ∷ rs) format short (not_nil r rs)),
)

-- whether the block is the last one
end_of_last_block : (laws : CutLaws) (f : FormatValue) (rs : List (List ℕ)) (k : ℕ) → IsFormat f
    → AreShort f.full rs → k ≤ length rs → (b : Bool) → nat_eq k (length rs) ≡ b
    → IsEnd (if b then Etx else Etb) (length (blocks f (drop k rs)))
end_of_last_block laws f rs k format short within true e =
    let all : length rs ≤ k = grind (arith, nat_tests) in
    ap (λ (xs : List (List ℕ)). length (blocks f xs)) (drop_all k rs all)
    ∙ ap (λ (bs : List (List (List ℕ))). length bs) (laws.none f)
end_of_last_block laws f rs k format short within false e =
    let differ : k ≢ length rs = grind (arith, nat_tests) in
    let less : 0 < length (drop k rs) = omega (arith, length-drop k rs) in
    blocks_of_some_records laws f (drop k rs) format (laws.rest f.full k rs short) less

first_of_waiting : (laws : CutLaws) (q : QueueValue) (n : ℕ) → IsFormat q.format
    → (rs : List (List ℕ)) → waiting q ≡ rs → AreShort q.format.full rs
    → length (blocks q.format rs) ≡ suc n → HasFirstBlock q n
first_of_waiting laws q n format [] is short count =
    absurd (let none : length (blocks q.format []) ≡ 0 =
    ap (λ (bs : List (List (List ℕ))). length bs) (laws.none q.format) in
    omega (arith, none, count))
first_of_waiting laws q n format (r ∷ rs) is short count =
    let f : FormatValue = q.format in
    let k : ℕ = taken f (r ∷ rs) in
    let cut : length (blocks f (r ∷ rs)) ≡ suc (length (blocks f (drop k (r ∷ rs)))) =
    ap (λ (bs : List (List (List ℕ))). length bs)
    (laws.next f (r ∷ rs) format short (not_nil r rs)) in
    let left : length (blocks f (drop k (r ∷ rs))) ≡ n = omega (arith, cut, count) in
    let waits : waiting (with_known q k) ≡ drop k (r ∷ rs) = sym (drop-drop k q.known q.offered)
    ∙ ap (λ (xs : List (List ℕ)). drop k xs) is in
    record {
      next = record { count = k; end = if nat_eq k (length (r ∷ rs)) then Etx else Etb };
      is = ap (λ (xs : List (List ℕ)). next_after f xs) is;
      rest = ap (λ (xs : List (List ℕ)). length (blocks f xs)) waits ∙ left;
      end =
          subst (λ (j : ℕ). IsEnd (if nat_eq k (length (r ∷ rs)) then Etx else Etb) j) left
          (end_of_last_block laws f (r ∷ rs) k format short (laws.taken_is f (r ∷ rs)).there
          (nat_eq k (length (r ∷ rs))) refl);
    }

-- a queue of n + 1 blocks has a first one, and after it n
pub first_block_of_queue : (laws : CutLaws) (q : QueueValue) (n : ℕ) → IsQueue q → block_count q ≡ suc n
    → HasFirstBlock q n
first_block_of_queue laws q n is count =
    first_of_waiting laws q n is.format (waiting q) refl
    (laws.rest q.format.full q.known q.offered is.short) count

-- if there is no block, no record waits
pub nothing_waits_without_block : (laws : CutLaws) (q : QueueValue) → IsQueue q → block_count q ≡ 0
    → nat_eq (length (waiting q)) 0 ≡ true
nothing_waits_without_block laws q is none = by_test (nat_eq (length (waiting q)) 0) refl
  where
    by_test : (b : Bool) → nat_eq (length (waiting q)) 0 ≡ b → b ≡ true
    by_test true e = refl
    by_test false e =
        let some : 0 < length (waiting q) = grind (arith, nat_tests) in
        let count : (k : ℕ) × (block_count q ≡ suc k) =
        blocks_of_some_records laws q.format (waiting q) is.format
        (laws.rest q.format.full q.known q.offered is.short) some in
        absurd (omega (arith, none, count.1))

records_wait_for_block : (laws : CutLaws) (q : QueueValue) (n : ℕ) → block_count q ≡ suc n → (rs : List (List ℕ))
    → waiting q ≡ rs → nat_eq (length rs) 0 ≡ false
records_wait_for_block laws q n some [] is =
    absurd (let none : block_count q ≡ 0 =
    ap (λ (xs : List (List ℕ)). length (blocks q.format xs)) is
    ∙ ap (λ (bs : List (List (List ℕ))). length bs) (laws.none q.format) in
    omega (arith, none, some))
records_wait_for_block laws q n some (r ∷ rs) is = grind (arith, nat_tests)

pub a_block : (laws : CutLaws) (q : QueueValue) (n : ℕ) → block_count q ≡ suc n
    → nat_eq (length (waiting q)) 0 ≡ false
a_block laws q n some = records_wait_for_block laws q n some (waiting q) refl
