-- A queue stays a queue after an offer.
use Rattle.std.proofs.Common.{◌≡◌, ℕ, ◌+◌, ◌≤◌, List, [], ◌∷◌, ◌++◌, length, arith}
use Rattle.std.proofs.lemmas.List.{length-append}
use Rattle.bsc_block.specs.Blocks.{AreShort}
use Rattle.bsc_spool.specs.Queue.{QueueValue, with_offered, IsQueue}

all_short : (full : ℕ) (rs : List (List ℕ)) (r : List ℕ) → AreShort full rs → length r ≤ full
    → AreShort full (rs ++ r ∷ [])
all_short full [] r all short = (short, tt)
all_short full (x ∷ xs) r all short = (all.0, all_short full xs r all.1 short)

pub is_queue_offered : (q : QueueValue) (r : List ℕ) → IsQueue q → length r ≤ q.format.full
    → IsQueue (with_offered q r)
is_queue_offered q r h short =
    let longer : length (q.offered ++ r ∷ []) ≡ length q.offered + 1 =
    length-append q.offered (r ∷ []) in
    let known : q.known ≤ length q.offered = h.known in
    record {
      format = h.format;
      known = omega (arith, longer);
      short = all_short q.format.full q.offered r h.short short;
    }
