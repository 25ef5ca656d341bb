-- What is filled changes only records, and what is known of them.
use Rattle.std.proofs.Common.{◌≡◌, ◌∙◌, ℕ, List, ap, refl, inl, inr}
use Rattle.bsc_bid.specs.declared.kept.KeptSender.{KeptSender}
use Rattle.bsc_control.specs.declared.task.Task.{Task}
use Rattle.bsc_control.specs.declared.task.Task.TheVariants.{AtRest}
use Rattle.bsc_control.specs.Control.{ControlValue, peer_at, with_peer}
use Rattle.bsc_control.specs.Peer.{PeerValue, no_peer}
use Rattle.bsc_control.specs.Stored.{apart_from_records, recalled_during, without_records}
use Rattle.bsc_control.proofs.PeerLists.{map_kept_by_set}
use Rattle.bsc_station.specs.Forgetting.{ForgetsArrivedFrom, ForgetsSent, ForgetsSentTo}
use Rattle.bsc_station.specs.Forgetting.{nothing, further}

pub peer_filled : (c : ControlValue) (t : ℕ) (p : PeerValue)
    → without_records p ≡ without_records (peer_at c t)
    → apart_from_records (with_peer c t p) ≡ apart_from_records c
peer_filled c t p same =
    ap (λ (ps : List PeerValue). record c { peers = ps })
    (map_kept_by_set without_records c.peers t p no_peer same)

-- a sending side that recalls
pub side_recalled : (c : ControlValue) (task : Task) (t s : ℕ) (k : KeptSender)
    → apart_from_records (recalled_during c task t s k) ≡ apart_from_records c
side_recalled c AtRest t s k = peer_filled c t _ refl
side_recalled c task t s k = refl

-- a spool that forgets
pub arrived_forgotten : (c : ControlValue) (t n : ℕ) (d : ControlValue)
    → ForgetsArrivedFrom c t n d → apart_from_records d ≡ apart_from_records c
arrived_forgotten c t n d (inl is) = ap apart_from_records is
arrived_forgotten c t n d (inr one) = ap apart_from_records one.others ∙ peer_filled c t _ refl

-- a queue that forgets
sent_forgotten_to : (c : ControlValue) (t s : ℕ) (d : ControlValue) → ForgetsSentTo c t s d
    → apart_from_records d ≡ apart_from_records c
sent_forgotten_to c t s d (inl is) = ap apart_from_records is
sent_forgotten_to c t s d (inr one) = ap apart_from_records one.state ∙ peer_filled c t _ refl

pub all_sent_forgotten : {c d : ControlValue} → ForgetsSent c d
    → apart_from_records d ≡ apart_from_records c
all_sent_forgotten nothing = refl
all_sent_forgotten (further before one) =
    sent_forgotten_to _ _ _ _ one ∙ all_sent_forgotten before
