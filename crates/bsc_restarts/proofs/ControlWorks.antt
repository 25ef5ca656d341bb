-- What an operator's works on a store leave of a control station.
use Rattle.std.proofs.Common.{◌≡◌, ◌∙◌, ◌<◌, ℕ, nat_eq, nat_lt}
use Rattle.std.proofs.Common.{List, [], length, None, Some, refl, sym, ap}
use Rattle.std.proofs.Common.{subst, arith, if◌then◌else◌}
use Rattle.std.proofs.lemmas.Bool.{and_from, lt-ltb}
use Rattle.std.proofs.lemmas.List.{length-map}
use Rattle.bsc_spool.specs.Queue.{waiting}
use Rattle.bsc_bid.specs.Terminal.{TerminalValue}
use Rattle.bsc_bid.specs.Addresses.{AreDistinct}
use Rattle.bsc_control.specs.Control.{ControlValue, peer_at, restarted}
use Rattle.bsc_control.specs.Kept.{outbound_of}
use Rattle.bsc_control.specs.Peer.{OutboundValue, PeerValue, no_outbound, no_peer, outbound_at}
use Rattle.bsc_control.specs.Peer.{outbound_released, restarted_outbound, restarted_peer}
use Rattle.bsc_control.specs.Peer.{with_outbound}
use Rattle.bsc_control.specs.Stored.{kept_of_side}
use Rattle.bsc_control.proofs.PeerLists.{value_kept_by_set}
use Rattle.bsc_control.proofs.Replacing.{replaced}
use Rattle.bsc_control.proofs.Restarting.{outbound_of_restarted, peer_at_restarted}
use Rattle.bsc_spool.specs.Contents.{Contents}
use Rattle.bsc_spool.specs.declared.change.Change.TheVariants.{Known, Offered}
use Rattle.bsc_spool.specs.declared.channel.Channel.{Channel}
use Rattle.bsc_station.specs.Feeding.{kept_at_control}
use Rattle.bsc_keeping.specs.Offers.{channel_to}
use Rattle.bsc_station.specs.Feeding.{control_with}
use Rattle.bsc_keeping.specs.Own.{receiving_of, sending_of}
use Rattle.bsc_bid.specs.declared.speaker.Speaker.TheVariants.{Control}
use Rattle.bsc_restarts.specs.AfterCrash.{arrived_at_control, waiting_at_control}
use Rattle.bsc_restarts.specs.Between.{IsControlOf}
use Rattle.bsc_restarts.specs.Crashes.{KeepsOne}
use Rattle.bsc_restarts.specs.Kept.{HasAllReceived, HasAllSent, HasSentIf, HasStation}
use Rattle.bsc_restarts.specs.StoreWorks.{ControlReleases, FollowsWorks, control_released}
use Rattle.bsc_restarts.proofs.Begun.{cut_doubt}
use Rattle.bsc_restarts.proofs.Differing.{control_channels_differ}
use Rattle.bsc_restarts.proofs.Forgotten.{has_still, side_where}
use Rattle.bsc_restarts.proofs.Lists.{at_set, length_of_set}
use Rattle.bsc_restarts.proofs.Offered.{gains_here, only_gains}
use Rattle.bsc_restarts.proofs.Offers.{HasAddress, at_most_of_control, control_gains, control_place}
use Rattle.bsc_restarts.proofs.Offers.{control_sides, other_side}
use Rattle.bsc_restarts.proofs.OneSide.{OnlySide}
use Rattle.bsc_restarts.proofs.Works.{by_phase, one_changed}

control_begins : (ts : List TerminalValue) (has : Channel → Contents) (c : ControlValue)
    → HasStation kept_at_control waiting_at_control arrived_at_control has (sending_of ts Control)
    (receiving_of ts Control) c
    → HasStation kept_at_control waiting_at_control arrived_at_control has (sending_of ts Control)
    (receiving_of ts Control) (restarted c)
control_begins ts has c all =
    let peers = length-map c.peers restarted_peer in
    has_still kept_at_control waiting_at_control arrived_at_control c (restarted c)
    (λ t s.
    side_where t s
    (ap (λ (p : PeerValue). length p.outbounds) (peer_at_restarted c t)
    ∙ length-map (peer_at c t).outbounds restarted_outbound)
    peers
    (ap kept_of_side (outbound_of_restarted c t s)
    ∙ ap (λ d. record { known = (outbound_of c t s).queue.known; doubt = d })
    (cut_doubt (outbound_of c t s).sender.phase)))
    (λ t s. ap (λ (o : OutboundValue). waiting o.queue) (outbound_of_restarted c t s))
    (λ n it got.
    subst (HasAllReceived it)
    (λ k. if nat_lt n (sym peers k) then (sym (peer_at_restarted c n) k).spool.records else []) got)
    has (sending_of ts Control) (receiving_of ts Control) all

-- one sending side has changed
side_only : (ts : List TerminalValue) (c : ControlValue) (t s : ℕ) (o : OutboundValue)
    → OnlySide kept_at_control waiting_at_control arrived_at_control t s c (replaced c t s o)
    (HasAddress ts)
side_only ts c t s o =
    let q = with_outbound (peer_at c t) s o in
    let peers = length_of_set c.peers t q in
    record {
      kept = λ i j side elsewhere.
          side_where i j
          (value_kept_by_set (λ (x : PeerValue). length x.outbounds) c.peers t i q no_peer
          (length_of_set (peer_at c t).outbounds s o))
          peers (ap kept_of_side (other_side c t s o i j (nat_eq i t) refl elsewhere));
      waiting = λ i j side elsewhere.
          ap (λ (x : OutboundValue). waiting x.queue)
          (other_side c t s o i j (nat_eq i t) refl elsewhere);
      arrived = λ n k.
          if nat_lt n (peers k)
          then value_kept_by_set (λ (x : PeerValue). x.spool.records) c.peers t n q no_peer refl k
          else [];
    }

-- what is to be kept of a sending side that is there
kept_there : (c : ControlValue) (t s : ℕ) → t < length c.peers
    → s < length (peer_at c t).outbounds → kept_at_control c t s ≡ Some (kept_of_side (outbound_of c t s))
kept_there c t s terminal address =
    ap (λ b. if b then Some (kept_of_side (outbound_of c t s)) else None)
    (and_from (nat_lt t (length c.peers)) (nat_lt s (length (peer_at c t).outbounds))
    (lt-ltb t (length c.peers) terminal) (lt-ltb s (length (peer_at c t).outbounds) address))

release_here : (ts : List TerminalValue) (has left : Channel → Contents) (t s count : ℕ)
    (its : Channel) (c : ControlValue) → IsControlOf ts c
    → channel_to t s (sending_of ts Control) ≡ Some its → ControlReleases c t s count
    → KeepsOne (Known its count 0) has left
    → HasSentIf (has its) (kept_at_control c t s) (waiting_at_control c t s)
    → HasSentIf (left its) (kept_at_control (control_released c t s count) t s)
    (waiting_at_control (control_released c t s count) t s)
release_here ts has left t s count its c is found accepts keeps had =
    let (terminal, address) = control_place ts t s its c is found in
    let o = outbound_of c t s in
    let n = outbound_released o count in
    let p = peer_at c t in
    let q = with_outbound p s n in
    let new = control_released c t s count in
    let its_peer : peer_at new t ≡ q = at_set c.peers t q no_peer terminal in
    let side : outbound_of new t s ≡ n =
    ap (λ x. outbound_at x s) its_peer ∙ at_set p.outbounds s n no_outbound address in
    let there : kept_at_control new t s ≡ Some (kept_of_side (outbound_of new t s)) =
    kept_there new t s (omega (arith, terminal, length_of_set c.peers t q))
    (omega (
      arith,
      address,
      ap (λ (x : PeerValue). length x.outbounds) its_peer,
      length_of_set p.outbounds s n,
    )) in
    let made : HasAllSent (left its) (kept_of_side n) (waiting n.queue) =
    by_phase o.sender.phase o.sender o.queue (has its) (left its) count keeps.changed
    ((is.control.entries.peers t no_peer terminal).ready s no_outbound address).counts accepts
    (subst (λ k. HasSentIf (has its) k (waiting o.queue)) (kept_there c t s terminal address) had) in
    subst (λ k. HasSentIf (left its) k (waiting (outbound_of new t s).queue)) (sym there)
    (subst (λ (x : OutboundValue). HasAllSent (left its) (kept_of_side x) (waiting x.queue))
    (sym side) made)

pub control_works : (ts : List TerminalValue) → AreDistinct ts
    → FollowsWorks kept_at_control waiting_at_control arrived_at_control (sending_of ts Control)
    (receiving_of ts Control) (IsControlOf ts) restarted ControlReleases control_released
    control_with
control_works ts distinct =
    let differ = control_channels_differ ts distinct in
    record {
      begins = control_begins ts;
      release = λ has left t s count its c is found accepts all keeps.
          one_changed kept_at_control waiting_at_control arrived_at_control (sending_of ts Control)
          (receiving_of ts Control) (HasAddress ts) (control_sides ts) differ
          (at_most_of_control ts) t s c (control_released c t s count) its (Known its count 0) refl
          found (side_only ts c t s (outbound_released (outbound_of c t s) count)) has left keeps
          (release_here ts has left t s count its c is found accepts keeps) all;
      offer = λ has left t s chars its c is found all keeps.
          let g = control_gains ts t s chars its c is found in
          one_changed kept_at_control waiting_at_control arrived_at_control (sending_of ts Control)
          (receiving_of ts Control) (HasAddress ts) (control_sides ts) differ
          (at_most_of_control ts) t s c (control_with c t s chars) its (Offered its chars) refl found
          (only_gains kept_at_control waiting_at_control arrived_at_control t s chars c
          (control_with c t s chars) (HasAddress ts) g)
          has left keeps
          (gains_here kept_at_control waiting_at_control arrived_at_control t s chars c
          (control_with c t s chars) (HasAddress ts) g its has left keeps)
          all;
    }
