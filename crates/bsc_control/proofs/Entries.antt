-- The invariants of a station's parts still hold when one of the parts is replaced.
use Rattle.std.proofs.Common.{◌≡◌, ℕ, Bool, true, false, ◌<◌, List, length, map, get_or, refl, sym}
use Rattle.std.proofs.Common.{◌∙◌, ap, subst, arith}
use Rattle.std.proofs.lemmas.List.{length-set, length-map}
use Rattle.std.proofs.lemmas.List.Elements.{All-set, All-map}
use Rattle.std.specs.List.{All}
use Rattle.bsc_bid.specs.Receiver.{ReceiverValue, new_receiver}
use Rattle.bsc_bid.proofs.Restarting.{ready_restarted}
use Rattle.bsc_control.specs.Control.{ControlValue, HasEntries, with_peer, restarted}
use Rattle.bsc_control.specs.Peer.{OutboundValue, PeerValue, IsOutbound, IsPeer, with_outbound}
use Rattle.bsc_control.specs.Peer.{restarted_outbound, restarted_peer}

pub peer_with_outbound : (p : PeerValue) (s : ℕ) (o : OutboundValue) → IsOutbound o → IsPeer p
    → IsPeer (with_outbound p s o)
peer_with_outbound p s o is h =
    record {
      terminal = h.terminal;
      outbounds = length-set p.outbounds s o ∙ h.outbounds;
      ready = All-set IsOutbound p.outbounds s o is h.ready;
    }

pub peer_with_receiver : (p : PeerValue) (r : ReceiverValue) → IsPeer p
    → IsPeer (record p { receiver = r })
peer_with_receiver p r h =
    record { terminal = h.terminal; outbounds = h.outbounds; ready = h.ready }

pub peer_with_flag : (p : PeerValue) (urgent : Bool) → IsPeer p
    → IsPeer (record p { urgent = urgent })
peer_with_flag p urgent h =
    record { terminal = h.terminal; outbounds = h.outbounds; ready = h.ready }

pub peer_with_polled : (p : PeerValue) (polled : Bool) → IsPeer p
    → IsPeer (record p { polled = polled })
peer_with_polled p polled h =
    record { terminal = h.terminal; outbounds = h.outbounds; ready = h.ready }

pub entries_with_peer : (c : ControlValue) (t : ℕ) (p : PeerValue) → IsPeer p → HasEntries c
    → HasEntries (with_peer c t p)
entries_with_peer c t p is h =
    record {
      place = h.place;
      entries =
          subst (λ (n : ℕ). All (λ t. t < n) c.poll_list) (sym (length-set c.peers t p)) h.entries;
      peers = All-set IsPeer c.peers t p is h.peers;
    }

-- the parts of a station that begins again
pub peer_restarted : (p : PeerValue) (r : ReceiverValue) (os : List OutboundValue) → IsPeer p
    → os ≡ map restarted_outbound p.outbounds
    → IsPeer (record p { polled = true; urgent = false; receiver = r; outbounds = os })
peer_restarted p r os h is =
    record {
      terminal = h.terminal;
      outbounds = ap length is ∙ length-map p.outbounds restarted_outbound ∙ h.outbounds;
      ready =
          subst (All IsOutbound) (sym is)
          (All-map IsOutbound restarted_outbound p.outbounds
          (λ i d within.
          let o : OutboundValue = get_or p.outbounds i d in
          ready_restarted o.sender o.queue (h.ready i d within)));
    }

pub entries_restarted : (c : ControlValue) (ps : List PeerValue) → HasEntries c
    → ps ≡ map restarted_peer c.peers → HasEntries (record (restarted c) { peers = ps })
entries_restarted c ps h is =
    let place : c.place < length c.poll_list = h.place in
    record {
      place = omega arith;
      entries =
          subst (λ (n : ℕ). All (λ t. t < n) c.poll_list)
          (sym (ap length is ∙ length-map c.peers restarted_peer)) h.entries;
      peers =
          subst (All IsPeer) (sym is)
          (All-map IsPeer restarted_peer c.peers
          (λ i d within.
          let p : PeerValue = get_or c.peers i d in
          peer_restarted p (new_receiver true) (map restarted_outbound p.outbounds)
          (h.peers i d within) refl));
    }
