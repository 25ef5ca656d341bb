-- A control station that begins again is one.
use Rattle.std.proofs.Common.{◌≡◌, ℕ, ◌<◌, length, map, get_or, refl, sym, ◌∙◌, ap, subst}
use Rattle.std.proofs.Math.ListN.{get_or-map}
use Rattle.std.proofs.lemmas.List.{length-map}
use Rattle.std.proofs.lemmas.Simd.{map-map}
use Rattle.bsc_bid.specs.Ready.{IsAtRest}
use Rattle.bsc_bid.proofs.Restarting.{is_at_rest_cut_phase}
use Rattle.bsc_control.specs.Control.{ControlValue, peer_at, terminals, restarted}
use Rattle.bsc_control.specs.Kept.{HasSettings, IsControl, outbound_of}
use Rattle.bsc_control.specs.Peer.{OutboundValue, PeerValue, no_outbound, no_peer}
use Rattle.bsc_control.specs.Peer.{restarted_outbound, restarted_peer}
use Rattle.bsc_control.proofs.Controls.{control_kept_by_setup}
use Rattle.bsc_control.proofs.Entries.{entries_restarted}

-- what is kept for each terminal, and its sending sides, began again
pub peer_at_restarted : (c : ControlValue) (t : ℕ) → peer_at (restarted c) t ≡ restarted_peer (peer_at c t)
peer_at_restarted c t = get_or-map restarted_peer c.peers t no_peer

pub outbound_of_restarted : (c : ControlValue) (t s : ℕ)
    → outbound_of (restarted c) t s ≡ restarted_outbound (outbound_of c t s)
outbound_of_restarted c t s =
    ap (λ (p : PeerValue). get_or p.outbounds s no_outbound) (peer_at_restarted c t)
    ∙ get_or-map restarted_outbound (peer_at c t).outbounds s no_outbound

-- the addresses stay
pub terminals_restarted : (c : ControlValue) → terminals (restarted c) ≡ terminals c
terminals_restarted c = map-map (λ (p : PeerValue). p.terminal) restarted_peer c.peers

outbounds_restarted : (c : ControlValue) (t : ℕ)
    → length (peer_at (restarted c) t).outbounds ≡ length (peer_at c t).outbounds
outbounds_restarted c t =
    ap (λ (p : PeerValue). length p.outbounds) (peer_at_restarted c t)
    ∙ length-map (peer_at c t).outbounds restarted_outbound

pub control_restarted : (c : ControlValue) → IsControl c → IsControl (restarted c)
control_restarted c h =
    control_kept_by_setup c (restarted c) h
    (record {
      poll_list = refl;
      terminals = terminals_restarted c;
      peers = length-map c.peers restarted_peer;
    })
    (entries_restarted c (map restarted_peer c.peers) h.entries refl)
    (record {
      suits = tt;
      rests = λ t s unused.
          subst (λ (o : OutboundValue). IsAtRest o.sender.phase) (sym (outbound_of_restarted c t s))
          (is_at_rest_cut_phase (outbound_of c t s).sender.phase);
      settings = λ t s there.
          let was : HasSettings c (outbound_of c t s) =
          h.orderly.settings t s (subst (λ (n : ℕ). s < n) (outbounds_restarted c t) there) in
          subst (HasSettings (restarted c)) (sym (outbound_of_restarted c t s))
          (record { setup = was.setup; format = was.format });
    })
