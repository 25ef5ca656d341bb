-- A new control station that is filled with records, and recalls what was kept, is the restarted
-- one.
use Rattle.std.proofs.Common.{◌≡◌, ℕ, suc, ◌<◌, false, true, List, [], ◌∷◌, length, map, get_or}
use Rattle.std.proofs.Common.{refl, sym, ◌∙◌, ap, subst, arith, Ok}
use Rattle.std.proofs.Math.ListN.{get_or-map}
use Rattle.std.proofs.lemmas.List.{length-map, ext_get_or}
use Rattle.std.proofs.lemmas.Simd.{map-map}
use Rattle.std.specs.List.{All}
use Rattle.bsc_block.specs.Format.{FormatValue}
use Rattle.bsc_spool.specs.Queue.{queue_of}
use Rattle.bsc_spool.specs.Spool.{without_room}
use Rattle.bsc_bid.specs.declared.kept.KeptSender.{KeptSender}
use Rattle.bsc_bid.specs.Receiver.{new_receiver}
use Rattle.bsc_bid.specs.Sender.{restarted_sender}
use Rattle.bsc_bid.specs.Setup.{SetupValue}
use Rattle.bsc_bid.specs.Stored.{FitsOffered, RecallStep, RecallsKept, new_sender, recall_step}
use Rattle.bsc_bid.specs.Terminal.{TerminalValue}
use Rattle.bsc_control.specs.Control.{ControlValue, peer_at, restarted, terminals, with_peer}
use Rattle.bsc_control.specs.Kept.{HasSettings, IsControl, IsNewControl, outbound_of}
use Rattle.bsc_control.specs.Peer.{OutboundValue, PeerValue, IsNewPeer, IsPeer, no_outbound}
use Rattle.bsc_control.specs.Peer.{no_peer, restarted_outbound, restarted_peer}
use Rattle.bsc_control.specs.Stored.{BecomesRestarted, IsBegunAs, IsFilledAs, apart_from_room}
use Rattle.bsc_control.specs.Stored.{kept_of_side, without_records}
use Rattle.bsc_control.proofs.PeerLists.{map_kept_by_set}
use Rattle.bsc_control.proofs.Restarting.{peer_at_restarted}

-- a terminal of which only the addresses are known
bare : TerminalValue → PeerValue
bare t =
    record {
      terminal = t;
      polled = true;
      urgent = false;
      receiver = new_receiver true;
      spool = record { records = []; room = false; delays = 0 };
      outbounds = [];
    }

new_without_records : (setup : SetupValue) (ps : List PeerValue)
    → All (λ (p : PeerValue). IsNewPeer setup p.terminal p) ps
    → map without_records ps ≡ map bare (map (λ (p : PeerValue). p.terminal) ps)
unfolding bare
new_without_records setup [] all = refl
new_without_records setup (p ∷ ps) all =
    let new : IsNewPeer setup p.terminal p = all 0 p (omega arith) in
    let first : without_records p ≡ bare p.terminal = cc in
    ap (λ (x : PeerValue). x ∷ map without_records ps) first
    ∙ ap (λ (xs : List PeerValue). bare p.terminal ∷ xs)
    (new_without_records setup ps (λ i d within. all (suc i) d (omega arith)))

restarted_without_records : (ps : List PeerValue) → map without_records (map restarted_peer ps)
    ≡ map bare (map (λ (p : PeerValue). p.terminal) ps)
unfolding bare
restarted_without_records ps =
    map-map without_records restarted_peer ps
    ∙ sym (map-map bare (λ (p : PeerValue). p.terminal) ps)

pub begun_new : (c n : ControlValue) → IsNewControl c.setup (terminals c) c.poll_list n
    → IsBegunAs c n
begun_new c n new =
    let peers : map without_records n.peers ≡ map without_records (map restarted_peer c.peers) =
    new_without_records c.setup n.peers new.peers ∙ ap (map bare) new.terminals_given
    ∙ sym (restarted_without_records c.peers) in
    cc (peers)

-- what changes records only keeps the rest
pub begun_filled : (c n : ControlValue) (t : ℕ) (p : PeerValue)
    → without_records p ≡ without_records (peer_at n t) → IsBegunAs c n
    → IsBegunAs c (with_peer n t p)
begun_filled c n t p same begun =
    ap (λ (ps : List PeerValue). record n { peers = ps })
    (map_kept_by_set without_records n.peers t p no_peer same) ∙ begun

side_recalled : RecallsKept → (setup : SetupValue) (o : OutboundValue) → o.sender.setup ≡ setup
    → o.queue.format ≡ setup.format
    → FitsOffered (kept_of_side o) (length o.queue.offered) → BecomesRestarted setup o
side_recalled law setup o same format fits =
    let k : KeptSender = kept_of_side o in
    let step : recall_step (new_sender setup) (queue_of setup.format o.queue.offered 0) k
    ≡ record { sender = restarted_sender o.sender; queue = o.queue; answer = Ok tt } =
    ap (λ (x : SetupValue). recall_step (new_sender x) (queue_of setup.format o.queue.offered 0) k)
    (sym same)
    ∙ ap (λ (f : FormatValue). recall_step (new_sender o.sender.setup)
    (queue_of f o.queue.offered 0) k) (sym format)
    ∙ law o.sender o.queue fits in
    let side : RecallStep → OutboundValue =
    λ x. record { sender = x.sender; queue = x.queue } in
    record { recalls = ap (λ (x : RecallStep). x.answer) step; restarts = ap side step }

pub recalled_restarted : RecallsKept → (c : ControlValue) (t s : ℕ) → IsControl c
    → s < length (peer_at c t).outbounds
    → FitsOffered (kept_of_side (outbound_of c t s)) (length (outbound_of c t s).queue.offered)
    → BecomesRestarted c.setup (outbound_of c t s)
recalled_restarted law c t s h there fits =
    let settings : HasSettings c (outbound_of c t s) = h.orderly.settings t s there in
    side_recalled law c.setup (outbound_of c t s) settings.setup settings.format fits

-- a terminal apart from the room in its spool
peer_apart : PeerValue → PeerValue
peer_apart p = record p { spool = without_room p.spool }

-- the terminals of both stations, apart from records
bare_peers : (c n : ControlValue) → IsBegunAs c n
    → map without_records n.peers ≡ map without_records (map restarted_peer c.peers)
bare_peers c n begun = ap (λ (x : ControlValue). x.peers) begun

as_many_peers : (c n : ControlValue) → IsBegunAs c n
    → length n.peers ≡ length (map restarted_peer c.peers)
as_many_peers c n begun =
    sym (length-map n.peers without_records) ∙ ap length (bare_peers c n begun)
    ∙ length-map (map restarted_peer c.peers) without_records

bare_peer_at : (c n : ControlValue) (t : ℕ) → IsBegunAs c n
    → without_records (peer_at n t) ≡ without_records (restarted_peer (peer_at c t))
bare_peer_at c n t begun =
    sym (get_or-map without_records n.peers t no_peer)
    ∙ ap (λ (ps : List PeerValue). get_or ps t (without_records no_peer)) (bare_peers c n begun)
    ∙ get_or-map without_records (map restarted_peer c.peers) t no_peer
    ∙ ap without_records (peer_at_restarted c t)

-- what is kept for a terminal is the same, apart from room
peer_restarted_apart : (c n : ControlValue) (t : ℕ) → IsControl c → IsControl n → IsFilledAs c n
    → t < length n.peers → peer_apart (peer_at n t) ≡ peer_apart (restarted_peer (peer_at c t))
unfolding peer_apart
peer_restarted_apart c n t hc hn filled within =
    let number : length n.peers ≡ length c.peers =
    as_many_peers c n filled.begun ∙ length-map c.peers restarted_peer in
    let p : IsPeer (peer_at c t) = hc.entries.peers t no_peer (omega (arith, number, within)) in
    let q : IsPeer (peer_at n t) = hn.entries.peers t no_peer within in
    let rest : without_records (peer_at n t) ≡ without_records (restarted_peer (peer_at c t)) =
    bare_peer_at c n t filled.begun in
    let terminal : (peer_at n t).terminal ≡ (peer_at c t).terminal =
    ap (λ (x : PeerValue). x.terminal) rest in
    let polled : (peer_at n t).polled ≡ true = ap (λ (x : PeerValue). x.polled) rest in
    let urgent : (peer_at n t).urgent ≡ false = ap (λ (x : PeerValue). x.urgent) rest in
    let receiver : (peer_at n t).receiver ≡ new_receiver true =
    ap (λ (x : PeerValue). x.receiver) rest in
    let many : length (peer_at n t).outbounds
    ≡ length (map restarted_outbound (peer_at c t).outbounds) =
    q.outbounds ∙ ap (λ (x : TerminalValue). length x.selects) terminal ∙ sym p.outbounds
    ∙ sym (length-map (peer_at c t).outbounds restarted_outbound) in
    let outbounds : (peer_at n t).outbounds ≡ map restarted_outbound (peer_at c t).outbounds =
    ext_get_or no_outbound (peer_at n t).outbounds
    (map restarted_outbound (peer_at c t).outbounds) many
    (λ s there. filled.sides t s
    ∙ sym (get_or-map restarted_outbound (peer_at c t).outbounds s no_outbound)) in
    let records : (peer_at n t).spool.records ≡ (peer_at c t).spool.records = filled.arrived t in
    cc (terminal, polled, urgent, receiver, outbounds, records)

pub restarted_by_filling : (c n : ControlValue) → IsControl c → IsControl n → IsFilledAs c n
    → apart_from_room n ≡ apart_from_room (restarted c)
unfolding peer_apart
restarted_by_filling c n hc hn filled =
    let many : length (map peer_apart n.peers)
    ≡ length (map peer_apart (map restarted_peer c.peers)) =
    length-map n.peers peer_apart ∙ as_many_peers c n filled.begun
    ∙ sym (length-map (map restarted_peer c.peers) peer_apart) in
    let peers : map peer_apart n.peers ≡ map peer_apart (map restarted_peer c.peers) =
    ext_get_or (peer_apart no_peer) (map peer_apart n.peers)
    (map peer_apart (map restarted_peer c.peers)) many
    (λ t within.
    get_or-map peer_apart n.peers t no_peer
    ∙ peer_restarted_apart c n t hc hn filled
    (subst (λ (k : ℕ). t < k) (length-map n.peers peer_apart) within)
    ∙ sym (ap peer_apart (peer_at_restarted c t))
    ∙ sym (get_or-map peer_apart (map restarted_peer c.peers) t no_peer)) in
    let begun : record n { peers = map peer_apart (map restarted_peer c.peers) }
    ≡ record (restarted c) { peers = map peer_apart (map restarted_peer c.peers) } =
    ap (λ (x : ControlValue). record x { peers = map peer_apart (map restarted_peer c.peers) })
    filled.begun in
    ap (λ (ps : List PeerValue). record n { peers = ps }) peers ∙ begun
