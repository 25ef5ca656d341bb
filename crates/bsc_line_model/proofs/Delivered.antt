-- If no bid is in progress, no channel is in doubt and no record waits, then everything that was
-- offered is delivered and known.
use Rattle.std.proofs.Common.{◌≡◌, ℕ, true, false, nat_eq, List, length, ◌∙◌, arith}
use Rattle.std.proofs.lemmas.Bool.Decides.{nat_tests}
use Rattle.std.proofs.lemmas.List.{length-drop, take_all}
use Rattle.bsc_spool.specs.Queue.{QueueValue, waiting}
use Rattle.bsc_bid.specs.declared.phase.Phase.{Phase}
use Rattle.bsc_bid.specs.declared.phase.Phase.TheVariants.{Idle, Unanswered, Held, InDoubt}
use Rattle.bsc_bid.specs.Ready.{IsAtRest}
use Rattle.bsc_bid.specs.Sender.{is_in_doubt}
use Rattle.bsc_bid.specs.Channel.{IsSpooled}
use Rattle.bsc_bid.specs.Agreement.{IsResting}
use Rattle.bsc_line_model.specs.Rounds.{block_count}
use Rattle.bsc_line_model.proofs.BlockCounts.{CutLaws, nothing_waits_without_block}

all_known_at_rest : (phase : Phase) (known spooled : ℕ) → IsAtRest phase → is_in_doubt phase ≡ false
    → IsSpooled phase known spooled → spooled ≡ known
all_known_at_rest Idle known spooled rest sure s = s
all_known_at_rest (InDoubt k) known spooled rest sure s = absurd (cc)
all_known_at_rest (Unanswered b) known spooled rest sure s = absurd rest
all_known_at_rest (Held end p) known spooled rest sure s = absurd rest

pub all_delivered_without_blocks : (laws : CutLaws) (phase : Phase) (q : QueueValue) (spooled : List (List ℕ))
    → IsResting phase q spooled → IsAtRest phase → is_in_doubt phase ≡ false → block_count q ≡ 0
    → (q.known ≡ length q.offered) × (spooled ≡ q.offered)
all_delivered_without_blocks laws phase q spooled h rest sure none =
    let test : nat_eq (length (waiting q)) 0 ≡ true = nothing_waits_without_block laws q h.queue none in
    let empty : length (waiting q) ≡ 0 = grind (arith, nat_tests) in
    let known : q.known ≡ length q.offered =
    omega (arith, empty, h.queue.known, length-drop q.known q.offered) in
    let count : length spooled ≡ q.known =
    all_known_at_rest phase q.known (length spooled) rest sure h.sound.spooled in
    (known, h.sound.front ∙ take_all (length spooled) q.offered (omega (arith, known, count)))
