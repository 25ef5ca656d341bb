-- A control station that is filled from its store.
use Rattle.std.proofs.Common.{◌≡◌, ◌∙◌, ◌≤◌, ◌<◌, ℕ, zero, suc, List, [], ◌∷◌, ◌++◌, length, map}
use Rattle.std.proofs.Common.{replicate, refl, sym, ap, subst, inl, inr, arith, Ok}
use Rattle.std.proofs.Common.{slice_index_or, length-drop}
use Rattle.std.proofs.lemmas.List.{length-map, length-replicate}
use Rattle.std.proofs.lemmas.Bool.{cases_lt}
use Rattle.bsc_block.proofs.Forgotten.{forgotten_fewer, length_after_forgotten}
use Rattle.bsc_block.specs.Records.{after_forgotten}
use Rattle.bsc_bid.specs.declared.kept.KeptSender.{KeptSender}
use Rattle.bsc_bid.specs.Sender.{restarted_sender}
use Rattle.bsc_bid.specs.Stored.{FitsOffered, RecallStep, RecallsKept, new_sender, recall_step}
use Rattle.bsc_bid.specs.Terminal.{TerminalValue}
use Rattle.bsc_control.specs.Control.{ControlValue, peer_at, terminals}
use Rattle.bsc_control.specs.Kept.{IsNewControl, outbound_of}
use Rattle.bsc_control.specs.Peer.{OutboundValue, PeerValue, new_outbound, no_outbound}
use Rattle.bsc_control.specs.Peer.{no_peer, restarted_outbound, sent_forgotten}
use Rattle.bsc_control.specs.Stored.{IsBegunAs, kept_of_side, outbound_recalled}
use Rattle.bsc_spool.specs.Contents.{Contents}
use Rattle.bsc_spool.specs.declared.channel.Channel.TheVariants.{From}
use Rattle.bsc_keeping.specs.Filled.{forgotten_of, offered_each, recalled_each, recalled_of}
use Rattle.bsc_keeping.specs.Filled.{sent_again}
use Rattle.bsc_keeping.specs.Filling.{offered_at, recalled_at}
use Rattle.bsc_keeping.specs.Own.{channel_to, sending_of, terminal_at}
use Rattle.bsc_bid.specs.declared.speaker.Speaker.TheVariants.{Control}
use Rattle.bsc_spool.specs.Queue.{queue_of, waiting, with_forgotten}
use Rattle.bsc_spool.specs.Spool.{SpoolValue}
use Rattle.bsc_restarts.specs.BegunAgain.{ControlBeginsAgain, HasSent, HasSides}
use Rattle.bsc_restarts.proofs.Arriving.{each_gained}
use Rattle.bsc_restarts.proofs.Forgetting.{AreForgotten, forgets_sent}
use Rattle.bsc_restarts.proofs.Lists.{index_after}
use Rattle.bsc_restarts.proofs.Offering.{each_offering, each_recalling, offering, offering_changes}
use Rattle.bsc_restarts.proofs.Offering.{recalling, recalling_changes, with_records}
use Rattle.bsc_restarts.proofs.Sides.{FirstTerminals, HasSide, first_terminals, still_has}

index_of_map : {X Y : Type 0} (f : X → Y) (xs : List X) (i : ℕ) (d : X) (e : Y) → i < length xs
    → slice_index_or (map f xs) i e ≡ f (slice_index_or xs i d)
index_of_map f [] i d e within = absurd (omega (arith, within))
index_of_map f (x ∷ xs) zero d e within = refl
index_of_map f (x ∷ xs) (suc i) d e within = index_of_map f xs i d e (omega (arith, within))

index_of_same : {X : Type 0} (n i : ℕ) (x d : X) → i < n → slice_index_or (replicate n x) i d ≡ x
index_of_same zero i x d within = absurd (omega (arith, within))
index_of_same (suc n) zero x d within = refl
index_of_same (suc n) (suc i) x d within = index_of_same n i x d (omega (arith, within))

-- a station has a terminal for each of its sending sides
pub peer_of_side : (c : ControlValue) (t s : ℕ) → s < length (peer_at c t).outbounds
    → t < length c.peers
peer_of_side c t s within = elim (cases_lt t (length c.peers)) [
  | inl less ↦ less
  | inr from ↦
      let none = ap (λ (p : PeerValue). length p.outbounds) (index_after c.peers t no_peer from) in
      absurd (omega (arith, within, none))
]

-- a new station has nothing that arrived, and a new sending side for each address
none_arrived : (c new : ControlValue) → IsNewControl c.setup (terminals c) c.poll_list new
    → (t : ℕ) → (peer_at new t).spool.records ≡ []
none_arrived c new is_new t = elim (cases_lt t (length new.peers)) [
  | inl within ↦ (is_new.peers t no_peer within).nothing_spooled
  | inr from ↦
      ap (λ (p : PeerValue). p.spool.records) (index_after new.peers t no_peer from)
]

same_peers : (c new : ControlValue) → IsNewControl c.setup (terminals c) c.poll_list new
    → length new.peers ≡ length c.peers
same_peers c new is_new =
    sym (length-map new.peers (λ (p : PeerValue). p.terminal))
    ∙ ap length is_new.terminals_given ∙ length-map c.peers (λ (p : PeerValue). p.terminal)

new_sides : (c new : ControlValue) → IsNewControl c.setup (terminals c) c.poll_list new
    → HasSides c → (t : ℕ) → t < length c.peers
    → length (peer_at new t).outbounds ≡ length (peer_at c t).outbounds
new_sides c new is_new sides t few =
    let within : t < length new.peers = omega (arith, few, same_peers c new is_new) in
    let p = peer_at new t in
    let term : p.terminal ≡ terminal_at (terminals c) t =
    sym
    (index_of_map (λ (q : PeerValue). q.terminal) new.peers t no_peer
    (record { poll = []; selects = [] }) within)
    ∙ ap (λ ts. terminal_at ts t) is_new.terminals_given in
    ap length (is_new.peers t no_peer within).outbounds
    ∙ length-replicate (length p.terminal.selects) (new_outbound c.setup)
    ∙ ap (λ (x : TerminalValue). length x.selects) term
    ∙ sym (sides t)

new_side : (c new : ControlValue) → IsNewControl c.setup (terminals c) c.poll_list new
    → (t s : ℕ) → HasSide new t s → outbound_of new t s ≡ new_outbound c.setup
new_side c new is_new t s has =
    let p = peer_at new t in
    let outbounds = (is_new.peers t no_peer has.peer).outbounds in
    let few : s < length p.terminal.selects =
    omega (
      arith,
      has.outbound,
      ap length outbounds,
      length-replicate (length p.terminal.selects) (new_outbound c.setup),
    ) in
    ap (λ os. slice_index_or os s no_outbound) outbounds
    ∙ index_of_same (length p.terminal.selects) s (new_outbound c.setup) no_outbound few

-- a sending side of which all known records are forgotten, after a restart
abbrev pub begun_side : OutboundValue → OutboundValue
begun_side o = sent_forgotten (restarted_outbound o) o.queue.known

begun_forgotten : (o : OutboundValue) (n : ℕ) → n ≤ o.queue.known
    → sent_forgotten (begun_side o) n ≡ begun_side o
begun_forgotten o n few =
    ap
    (λ rs. record (begun_side o) { queue = queue_of o.queue.format rs o.queue.known })
    (forgotten_fewer o.queue.known n (waiting o.queue) few)

-- a new sending side that is offered and recalls what the store has of one is that one
side_begins : RecallsKept → (c : ControlValue) (it : Contents) (o : OutboundValue)
    → o.sender.setup ≡ c.setup → o.queue.format ≡ c.setup.format
    → FitsOffered (kept_of_side o) (length o.queue.offered)
    → HasSent it (kept_of_side o) (waiting o.queue)
    → outbound_recalled (with_records (new_outbound c.setup) (sent_again it)) (recalled_of it)
    ≡ begun_side o
side_begins recalls c it o setup format fits all =
    let forgot = with_forgotten o.queue o.queue.known in
    let known : it.known ≡ o.queue.known = ap (λ (k : KeptSender). k.known) all.numbers in
    let count : length forgot.offered ≡ length o.queue.offered =
    omega (
      arith,
      length_after_forgotten o.queue.known (waiting o.queue),
      length-drop o.queue.known o.queue.offered,
      fits.known,
    ) in
    let again : sent_again it ≡ forgot.offered = λ i. replicate (known i) [] ++ all.rest i in
    let step : recall_step (new_sender c.setup) (queue_of c.setup.format (sent_again it) 0)
    (recalled_of it)
    ≡ record { sender = restarted_sender o.sender; queue = forgot; answer = Ok tt } =
    (λ i. recall_step (new_sender (sym setup i)) (queue_of (sym format i) (again i) 0)
    (all.numbers i))
    ∙ recalls o.sender forgot (subst (FitsOffered (kept_of_side o)) (sym count) fits) in
    ap (λ (r : RecallStep). record { sender = r.sender; queue = r.queue }) step

-- a new control station that is filled is the control station begun again
pub control_begins : RecallsKept
    → ((c n : ControlValue) → IsNewControl c.setup (terminals c) c.poll_list n → IsBegunAs c n)
    → ControlBeginsAgain
control_begins recalls begins has forgets_printed c new filled is_one sides fit is_new same all
    made =
    let ts = terminals c in
    let ends = sending_of ts Control in
    let n = length ts in
    let count : n ≡ length c.peers = length-map c.peers (λ (p : PeerValue). p.terminal) in
    let offered = offered_each offered_at has ends new in
    let mid = made.mid in
    let last = recalled_each recalled_at has ends mid in
    let first =
    subst (FirstTerminals (λ its o. with_records o (sent_again (has its))) ts n new)
    (sym (each_offering has ends new))
    (first_terminals (offering has) (λ its o. with_records o (sent_again (has its)))
    (offering_changes has) ts n new is_new.task) in
    let second =
    each_gained has forgets_printed ts n offered mid made.adds
    (λ t. ap (λ (p : SpoolValue). p.records) (first.only.spools t) ∙ none_arrived c new is_new t)
    in
    let third =
    subst (FirstTerminals (λ its o. outbound_recalled o (recalled_of (has its))) ts n mid)
    (sym (each_recalling has ends mid))
    (first_terminals (recalling has) (λ its o. outbound_recalled o (recalled_of (has its)))
    (recalling_changes has) ts n mid (second.only.task ∙ first.only.task ∙ is_new.task)) in
    let there : (t s : ℕ) → s < length (peer_at c t).outbounds → HasSide new t s =
    λ t s within.
    let peer = peer_of_side c t s within in
    record {
      peer = omega (arith, peer, same_peers c new is_new);
      outbound = omega (arith, within, new_sides c new is_new sides t peer);
    } in
    let begun : (t s : ℕ) → s < length (peer_at c t).outbounds
    → outbound_of last t s ≡ begun_side (outbound_of c t s) =
    λ t s within.
    let peer = peer_of_side c t s within in
    let its = channel_to (terminal_at ts t) s in
    let few : t < n = omega (arith, peer, count) in
    let inside : s < length (terminal_at ts t).selects = omega (arith, within, sides t) in
    let here = there t s within in
    let after = still_has new offered t s first.only here in
    let still : HasSide mid t s = record {
      peer = omega (arith, after.peer, second.only.peers);
      outbound = omega (arith, after.outbound, second.only.lengths t);
    } in
    let settings = is_one.orderly.settings t s within in
    third.done t s few inside still
    ∙ ap (λ o. outbound_recalled o (recalled_of (has its)))
    (second.only.sides t s ∙ first.done t s few inside here
    ∙ ap (λ o. with_records o (sent_again (has its))) (new_side c new is_new t s here))
    ∙ side_begins recalls c (has its) (outbound_of c t s) settings.setup settings.format
    (fit t s within) (all.sent t s within) in
    let forgot : AreForgotten last =
    λ t s here k few.
    let peer : t < length c.peers =
    omega (
      arith,
      here.peer,
      third.only.peers,
      second.only.peers,
      first.only.peers,
      same_peers c new is_new,
    ) in
    let within : s < length (peer_at c t).outbounds =
    omega (
      arith,
      here.outbound,
      third.only.lengths t,
      second.only.lengths t,
      first.only.lengths t,
      new_sides c new is_new sides t peer,
    ) in
    let is = begun t s within in
    let known = ap (λ (o : OutboundValue). o.queue.known) is in
    ap (λ o. sent_forgotten o k) is
    ∙ begun_forgotten (outbound_of c t s) k (omega (arith, few, known)) ∙ sym is in
    let end = forgets_sent made.forgot forgot in
    record {
      others = same ∙ begins c new is_new;
      sides = λ t s within.
          let here = there t s within in
          let still : HasSide last t s = record {
            peer = omega (
              arith,
              here.peer,
              third.only.peers,
              second.only.peers,
              first.only.peers,
            );
            outbound = omega (
              arith,
              here.outbound,
              third.only.lengths t,
              second.only.lengths t,
              first.only.lengths t,
            );
          } in
          end.sides t s still ∙ begun t s within;
      arrived = λ t few.
          let its = has (From (terminal_at ts t).poll) in
          ap (λ (p : SpoolValue). p.records) (end.only.spools t ∙ third.only.spools t)
          ∙ second.begun t (omega (arith, few, count))
          ∙ ap (after_forgotten (forgotten_of forgets_printed its)) (all.received t few);
    }
