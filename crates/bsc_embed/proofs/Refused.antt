-- A release or a recall that is refused leaves the station as it was.
use Rattle.std.proofs.Common.{◌≡◌, ◌∙◌, ℕ, ap, refl, Err}
use Rattle.bsc_spool.specs.Queue.{QueueValue}
use Rattle.bsc_bid.specs.declared.kept.KeptSender.{KeptSender}
use Rattle.bsc_bid.specs.declared.kept.RecallError.{RecallError}
use Rattle.bsc_bid.specs.Sender.{SenderValue, release_step}
use Rattle.bsc_bid.specs.Stored.{recall_step}
use Rattle.bsc_control.specs.declared.task.Task.{Task}
use Rattle.bsc_control.specs.declared.task.Task.TheVariants.{AtRest, Selecting, Sending, Polling}
use Rattle.bsc_control.specs.Control.{ControlValue, peer_at, with_peer}
use Rattle.bsc_control.specs.Kept.{outbound_of}
use Rattle.bsc_control.specs.Peer.{outbound_released, with_outbound}
use Rattle.bsc_control.specs.Stored.{answer_during, outbound_recalled, recalled_during}
use Rattle.bsc_control.proofs.Reached.{replaced_by_itself}
use Rattle.bsc_control.proofs.Replacing.{replaced}

-- A release that leaves the sender and its queue as they were.
pub release_changes_nothing : (c : ControlValue) (t s count : ℕ)
    → (release_step (outbound_of c t s).sender (outbound_of c t s).queue count).sender
    ≡ (outbound_of c t s).sender
    → (release_step (outbound_of c t s).sender (outbound_of c t s).queue count).queue
    ≡ (outbound_of c t s).queue
    → with_peer c t (with_outbound (peer_at c t) s (outbound_released (outbound_of c t s) count))
    ≡ c
release_changes_nothing c t s count sender queue =
    let same : outbound_released (outbound_of c t s) count ≡ outbound_of c t s =
    rw (sender, queue) refl in
    ap (replaced c t s) same ∙ replaced_by_itself c t s

-- A recall that is refused, during each task.
pub recall_changes_nothing
    : ((s : SenderValue) (q : QueueValue) (k : KeptSender) (e : RecallError)
    → (recall_step s q k).answer ≡ Err e → (recall_step s q k).sender ≡ s)
    → ((s : SenderValue) (q : QueueValue) (k : KeptSender) (e : RecallError)
    → (recall_step s q k).answer ≡ Err e → (recall_step s q k).queue ≡ q)
    → (c : ControlValue) (task : Task) (t s : ℕ) (k : KeptSender) (e : RecallError)
    → answer_during c task t s k ≡ Err e → recalled_during c task t s k ≡ c
recall_changes_nothing senders queues c AtRest t s k e refused =
    let sender : _ = senders (outbound_of c t s).sender (outbound_of c t s).queue k e refused in
    let queue : _ = queues (outbound_of c t s).sender (outbound_of c t s).queue k e refused in
    let same : outbound_recalled (outbound_of c t s) k ≡ outbound_of c t s =
    rw (sender, queue) refl in
    ap (replaced c t s) same ∙ replaced_by_itself c t s
recall_changes_nothing senders queues c (Selecting select enquired) t s k e refused = refl
recall_changes_nothing senders queues c (Sending select) t s k e refused = refl
recall_changes_nothing senders queues c (Polling replied) t s k e refused = refl
