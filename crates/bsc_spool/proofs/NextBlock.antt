-- What the next block of a queue is.
use Rattle.std.proofs.Common.{◌≡◌, ◌≢◌, ℕ, ◌<◌, ◌≤◌, arith, Bool, true, false, List, [], ◌∷◌}
use Rattle.std.proofs.Common.{length, refl, Some, nat_eq, if◌then◌else◌}
use Rattle.std.proofs.lemmas.Bool.{eqb-true, eqb-false}
use Rattle.bsc_frame.specs.declared.text.End.TheVariants.{Etb, Etx}
use Rattle.bsc_block.specs.Format.{FormatValue}
use Rattle.bsc_block.specs.Blocks.{taken, IsTaken}
use Rattle.bsc_spool.specs.declared.queue.Next.{Next}
use Rattle.bsc_spool.specs.Queue.{QueueValue, waiting, next_after, next_block, IsNext}

-- The next block of these waiting records.
record IsAfter (f : FormatValue) (rs : List (List ℕ)) (n : Next) : Type 0 where
  pub count : n.count ≡ taken f rs
  pub last : n.end ≡ Etx → n.count ≡ length rs
  pub more : n.end ≡ Etb → n.count < length rs

block_ends_with_last_record : (f : FormatValue) (rs : List (List ℕ)) (b : Bool) → IsTaken f rs (taken f rs)
    → nat_eq (taken f rs) (length rs) ≡ b
    → IsAfter f rs (record { count = taken f rs; end = if b then Etx else Etb })
block_ends_with_last_record f rs true t e =
    record {
      count = refl;
      last = λ _. eqb-true (taken f rs) (length rs) e;
      more =
          λ h. absurd (cc);
    }
block_ends_with_last_record f rs false t e =
    record {
      count = refl;
      last = λ h. absurd (cc);
      more = λ _. let apart : taken f rs ≢ length rs =
          eqb-false (taken f rs) (length rs) e in omega (arith, t.there);
    }

next_block_after_taken : (f : FormatValue) (rs : List (List ℕ)) (n : Next) → IsTaken f rs (taken f rs)
    → next_after f rs ≡ Some n → (rs ≢ []) × IsAfter f rs n
next_block_after_taken f [] n t e = absurd (cc)
next_block_after_taken f (r ∷ rs) n t e =
    let same : record {
      count = taken f (r ∷ rs);
      end =
          if nat_eq (taken f (r ∷ rs)) (length (r ∷ rs)) then Etx else Etb;
    } ≡ n = cc in
    (λ h. cc, rw (← same) (block_ends_with_last_record f (r ∷ rs) (nat_eq (taken f (r ∷ rs)) (length (r ∷ rs))) t refl))

pub next_block_is_next : (q : QueueValue) (n : Next)
    → ((waiting q ≢ []) → 1 ≤ taken q.format (waiting q))
    → IsTaken q.format (waiting q) (taken q.format (waiting q))
    → next_block q ≡ Some n → IsNext q n
next_block_is_next q n some t e =
    let a : (waiting q ≢ []) × IsAfter q.format (waiting q) n = next_block_after_taken q.format (waiting q) n t e in
    record {
      count = a.1.count;
      some = omega (arith, some a.0, a.1.count);
      few = omega (arith, t.few, a.1.count);
      there = omega (arith, t.there, a.1.count);
      last = a.1.last;
      more = a.1.more;
    }
