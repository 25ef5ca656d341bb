-- While the stations fit together, the channels of each terminal are sound, whether or not a bid is
-- in progress.
use Rattle.std.proofs.Common.{inl, inr, ℕ, ◌<◌, List, length, Option, sym, subst}
use Rattle.bsc_tributary.specs.Tributary.{TributaryValue, spool_at}
use Rattle.bsc_control.specs.declared.task.Task.{Task}
use Rattle.bsc_control.specs.declared.task.Task.TheVariants.{AtRest, Selecting, Sending, Polling}
use Rattle.bsc_control.specs.Peer.{PeerValue, outbound_at}
use Rattle.bsc_control.specs.Control.{ControlValue, peer_at, peer, current}
use Rattle.bsc_line_model.specs.declared.transmission.Transmission.{Transmission}
use Rattle.bsc_line_model.specs.Line.{terminal_in}
use Rattle.bsc_line_model.specs.BidLaws.{BidLaws}
use Rattle.bsc_line_model.specs.Together.{Rests, RestsDown, HasNoBid, NoOtherBids, IsInBidDown}
use Rattle.bsc_line_model.specs.Together.{IsInBidUp, InTask}
use Rattle.bsc_line_model.proofs.Stations.{same_or_not}

pub rests_of_no_bid : (p : PeerValue) (x : TributaryValue) → HasNoBid p x → Rests p x
rests_of_no_bid p x h = record { up = h.up; down = h.down }

pub rests_of_bid_down : (laws : BidLaws) (pending : Option Transmission) (p : PeerValue) (e s : ℕ)
    (x : TributaryValue) → IsInBidDown pending p e s x → Rests p x
rests_of_bid_down laws pending p e s x b =
    record {
      up = b.up;
      down = λ k less.
          elim (same_or_not k s) [
            | inl same ↦
                subst (λ (j : ℕ). RestsDown p x j) (sym same)
                (laws.rests (outbound_at p s).sender.phase (outbound_at p s).queue
                x.receiver.alternation x.receiver.last (spool_at x.spools s).records b.flight b.bid)
            | inr differ ↦ b.down k less differ
          ];
    }

pub rests_of_bid_up : (laws : BidLaws) (pending : Option Transmission) (p : PeerValue) (e : ℕ)
    (x : TributaryValue) → IsInBidUp pending p e x → Rests p x
rests_of_bid_up laws pending p e x b =
    record {
      up =
          laws.rests x.sender.phase x.queue p.receiver.alternation p.receiver.last p.spool.records
          b.flight b.bid;
      down = b.down;
    }

-- the present terminal, and the others
rests_with_each : (c : ControlValue) (ts : List TributaryValue) (t : ℕ) → t < length ts
    → NoOtherBids c ts (current c) → Rests (peer c) (terminal_in ts (current c))
    → Rests (peer_at c t) (terminal_in ts t)
rests_with_each c ts t less others here =
    elim (same_or_not t (current c)) [
      | inl same ↦ subst (λ (n : ℕ). Rests (peer_at c n) (terminal_in ts n)) (sym same) here
      | inr differ ↦ rests_of_no_bid (peer_at c t) (terminal_in ts t) (others t less differ)
    ]

pub rests_in_task : (laws : BidLaws) (task : Task) (pending : Option Transmission) (c : ControlValue)
    (ts : List TributaryValue) (t : ℕ) → t < length ts → InTask task pending c ts
    → Rests (peer_at c t) (terminal_in ts t)
rests_in_task laws AtRest pending c ts t less h = h.rests t less
rests_in_task laws (Selecting s enquired) pending c ts t less h =
    rests_of_no_bid (peer_at c t) (terminal_in ts t) (h.no_bids t less)
rests_in_task laws (Sending s) pending c ts t less h =
    rests_with_each c ts t less h.others
    (elim h.present [
      | inl b ↦ rests_of_bid_down laws pending (peer c) (current c) s (terminal_in ts (current c)) b
      | inr left ↦ left.rests
    ])
rests_in_task laws (Polling replied) pending c ts t less h =
    rests_with_each c ts t less h.others
    (elim h.present [
      | inl q ↦ rests_of_no_bid (peer c) (terminal_in ts (current c)) q.0
      | inr b ↦ rests_of_bid_up laws pending (peer c) (current c) (terminal_in ts (current c)) b
    ])
