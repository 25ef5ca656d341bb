-- Records that are offered one after another at a control station.
use Rattle.std.proofs.Common.{◌≡◌, ◌<◌, ℕ, List, [], ◌∷◌, ◌++◌, length, ap, ◌∙◌}
use Rattle.std.proofs.lemmas.List.{length-set, get_or-set_same, set-set, set-get_or}
use Rattle.bsc_spool.specs.Queue.{QueueValue}
use Rattle.bsc_control.specs.Control.{ControlValue, peer_at, with_peer}
use Rattle.bsc_control.specs.Kept.{outbound_of}
use Rattle.bsc_control.specs.Peer.{PeerValue, OutboundValue, no_outbound, no_peer, offered_to}
use Rattle.bsc_control.specs.Peer.{outbound_at, with_outbound}
use Rattle.bsc_station.specs.Offers.{IsOffered, with_queue}

-- A queue that is put in place of another one leaves nothing of that one.
outbound_set_again : (p : PeerValue) (s : ℕ) (first queue : QueueValue) → s < length p.outbounds
    → with_outbound (with_outbound p s (record (outbound_at p s) { queue = first })) s
    (record (outbound_at (with_outbound p s (record (outbound_at p s) { queue = first })) s) {
      queue = queue;
    })
    ≡ with_outbound p s (record (outbound_at p s) { queue = queue })
outbound_set_again p s first queue there =
    let put : OutboundValue = record (outbound_at p s) { queue = first } in
    ap (λ (o : OutboundValue). with_outbound (with_outbound p s put) s (record o { queue = queue }))
    (get_or-set_same p.outbounds s put no_outbound there)
    ∙ ap (λ (os : List OutboundValue). record p { outbounds = os })
    (set-set p.outbounds s put (record (outbound_at p s) { queue = queue }))

pub queue_set_again : (c : ControlValue) (t s : ℕ) (first queue : QueueValue)
    → t < length c.peers → s < length (peer_at c t).outbounds
    → with_queue (with_queue c t s first) t s queue ≡ with_queue c t s queue
queue_set_again c t s first queue less there =
    let p = peer_at c t in
    let put : PeerValue = with_outbound p s (record (outbound_at p s) { queue = first }) in
    ap (λ (q : PeerValue). with_peer (with_peer c t put) t
    (with_outbound q s (record (outbound_at q s) { queue = queue })))
    (get_or-set_same c.peers t put no_peer less)
    ∙ ap (λ (q : PeerValue). with_peer (with_peer c t put) t q)
    (outbound_set_again p s first queue there)
    ∙ ap (λ (ps : List PeerValue). record c { peers = ps })
    (set-set c.peers t put (with_outbound p s (record (outbound_at p s) { queue = queue })))

-- Its own queue changes nothing.
pub own_queue_set : (c : ControlValue) (t s : ℕ)
    → with_queue c t s (outbound_of c t s).queue ≡ c
own_queue_set c t s =
    ap (λ (os : List OutboundValue). with_peer c t (record (peer_at c t) { outbounds = os }))
    (set-get_or (peer_at c t).outbounds s no_outbound)
    ∙ ap (λ (ps : List PeerValue). record c { peers = ps }) (set-get_or c.peers t no_peer)

pub offer_of_one_record : (old : ControlValue) (t s : ℕ) (codes : List ℕ) (new : ControlValue) → t
    < length old.peers → s < length (peer_at old t).outbounds
    → new ≡ with_peer old t (offered_to (peer_at old t) s codes) → IsOffered old t s codes new
offer_of_one_record old t s codes new less there e =
    let p = offered_to (peer_at old t) s codes in
    let peer_is : peer_at new t ≡ p = ap (λ (c : ControlValue). peer_at c t) e
    ∙ get_or-set_same old.peers t p no_peer less in
    let o : OutboundValue = outbound_at p s in
    record {
      setup = ap (λ (c : ControlValue). c.setup) e;
      peers = ap (λ (c : ControlValue). length c.peers) e ∙ length-set old.peers t p;
      selects = ap (λ (q : PeerValue). length q.outbounds) peer_is
          ∙ length-set (peer_at old t).outbounds s _;
      offered = ap (λ (q : PeerValue). (outbound_at q s).queue.offered) peer_is
          ∙ ap (λ (q : OutboundValue). q.queue.offered)
          (get_or-set_same (peer_at old t).outbounds s _ no_outbound there);
      known = ap (λ (q : PeerValue). (outbound_at q s).queue.known) peer_is
          ∙ ap (λ (q : OutboundValue). q.queue.known)
          (get_or-set_same (peer_at old t).outbounds s _ no_outbound there);
      others = λ queue. ap (λ (c : ControlValue). with_queue c t s queue) e
          ∙ queue_set_again old t s
          (record (outbound_of old t s).queue {
            offered = (outbound_of old t s).queue.offered ++ codes ∷ [];
          }) queue less there;
    }
