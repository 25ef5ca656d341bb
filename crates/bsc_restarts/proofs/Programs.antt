-- What programs have a station do between sessions is followed.
use Rattle.std.proofs.Common.{◌≡◌, ◌∙◌, ◌+◌, ◌==◌, ◌||◌, ℕ, Bool, true, false, List, [], length}
use Rattle.std.proofs.Common.{Some, Result, Ok, ◌⊎◌, inl, inr, refl, sym, ap, subst, arith}
use Rattle.std.proofs.Common.{append-nil, if◌then◌else◌}
use Rattle.std.proofs.lemmas.Bool.{or_cases}
use Rattle.std.proofs.lemmas.Bool.Decides.{nat_tests}
use Rattle.bsc_spool.specs.Queue.{QueueValue, queue_of}
use Rattle.bsc_bid.specs.Sender.{SenderValue, not_released, release_in, release_step, released}
use Rattle.bsc_bid.specs.Terminal.{HasDistinctAddresses, TerminalValue}
use Rattle.bsc_bid.specs.declared.phase.Phase.{Phase}
use Rattle.bsc_bid.specs.declared.phase.Phase.TheVariants.{Held, Idle, InDoubt, Unanswered}
use Rattle.bsc_bid.specs.declared.sender.ReleaseError.TheVariants.{CountMismatch}
use Rattle.bsc_bid.specs.Addresses.{AreDistinct}
use Rattle.bsc_bid.specs.Ways.{select_of}
use Rattle.bsc_bid.specs.declared.way.Way.{Way}
use Rattle.bsc_control.specs.Control.{ControlValue, peer_at}
use Rattle.bsc_control.specs.Kept.{IsControl, outbound_of}
use Rattle.bsc_control.specs.Peer.{PeerValue, no_peer, outbound_released, with_outbound}
use Rattle.bsc_control.proofs.Controls.{selection_within_outbounds}
use Rattle.bsc_control.proofs.PeerLists.{value_kept_by_set}
use Rattle.bsc_spool.specs.Contents.{Contents}
use Rattle.bsc_spool.specs.declared.channel.Channel.{Channel}
use Rattle.bsc_spool.specs.declared.fault.StoreFault.{StoreFault}
use Rattle.bsc_spool.specs.declared.store.Store as store_of
use Rattle.bsc_station.specs.LineTerminal.{LineTerminalValue}
use Rattle.bsc_station.specs.Feeding.{kept_at_control}
use Rattle.bsc_keeping.specs.Offers.{KeepsOffer}
use Rattle.bsc_keeping.specs.Own.{receiving_of, sending_of, sends_from, spools_of}
use Rattle.bsc_keeping.specs.declared.keeper.Keeper.{Keeper}
use Rattle.bsc_bid.specs.declared.speaker.Speaker.TheVariants.{Control}
use Rattle.bsc_station.specs.Feeding.{IsNoTerminal, IsOfferedAt, IsOfferedTo}
use Rattle.bsc_station.specs.Feeding.{ReadiesTerminal, ReleasesControl, ReleasesTerminal}
use Rattle.bsc_station.specs.Feeding.{UrgesTerminal}
use Rattle.bsc_restarts.specs.AfterCrash.{arrived_at_control, arrived_at_terminal, kept_at_terminal}
use Rattle.bsc_restarts.specs.AfterCrash.{waiting_at_control, waiting_at_terminal}
use Rattle.bsc_restarts.specs.Between.{LeavesOffer}
use Rattle.bsc_restarts.specs.Crashes.{KeepsGiven}
use Rattle.bsc_restarts.specs.Kept.{HasStation, Knows}
use Rattle.bsc_restarts.specs.StoreWorks.{control_released}
use Rattle.bsc_restarts.proofs.ControlGrowth.{ControlGrows, grown_from, know_at_peer, know_at_set}
use Rattle.bsc_restarts.proofs.ControlGrowth.{sides_within}
use Rattle.bsc_restarts.proofs.Ends.{ReceivedGrows, grows_not}
use Rattle.bsc_restarts.proofs.Growing.{KnowsMore, knows_as_many, were_waiting}
use Rattle.bsc_restarts.proofs.Lists.{length_of_set}
use Rattle.bsc_restarts.proofs.Offers.{control_offered_there, terminal_outlives_offers}
use Rattle.bsc_restarts.proofs.TerminalGrowth.{TerminalGrows}

-- a release makes no record unknown
by_count : (b : Bool) (s : SenderValue) (q : QueueValue) (k count : ℕ)
    → ((count == q.known) || (count == (q.known + k))) ≡ b
    → KnowsMore q (if b then released s q count else not_released s q CountMismatch).queue
by_count true s q k count at =
    elim (or_cases (count == q.known) (count == (q.known + k)) at) [
      | inl first ↦
          let same : count ≡ q.known = grind (arith, nat_tests, first) in
          let none : count ≡ q.known + 0 = omega (arith, same) in
          (0, ap (λ n. queue_of q.format q.offered n) none)
      | inr second ↦
          let same : count ≡ q.known + k = grind (arith, nat_tests, second) in
          (k, ap (λ n. queue_of q.format q.offered n) same)
    ]
by_count false s q k count at = knows_as_many q

by_phase : (p : Phase) (s : SenderValue) (q : QueueValue) (count : ℕ)
    → KnowsMore q (release_in s q p count).queue
by_phase (InDoubt k) s q count =
    by_count ((count == q.known) || (count == (q.known + k))) s q k count refl
by_phase Idle s q count = knows_as_many q
by_phase (Unanswered b) s q count = knows_as_many q
by_phase (Held end alternation) s q count = knows_as_many q

release_knows : (s : SenderValue) (q : QueueValue) (count : ℕ)
    → KnowsMore q (release_step s q count).queue
release_knows s q count = by_phase s.phase s q count

-- a terminal that is offered a record
pub terminal_offers : {K : Type 0} (store : store_of.Ghosts K) (terminal : TerminalValue)
    → HasDistinctAddresses terminal → (has : K → Channel → Contents) → KeepsGiven store has
    → (t : ℕ) (way : Way) (chars : List ℕ) (result : Result (List ℕ) StoreFault)
    (old new : LineTerminalValue) (before after : Keeper K)
    → IsOfferedAt old t way chars new
    → Knows (has before.store) (sends_from (Some terminal)) (spools_of terminal) before
    → HasStation kept_at_terminal waiting_at_terminal arrived_at_terminal (has before.store)
    (sends_from (Some terminal)) (spools_of terminal) old
    → KeepsOffer store t (select_of way) chars result before after
    → LeavesOffer kept_at_terminal waiting_at_terminal arrived_at_terminal store
    (sends_from (Some terminal)) (spools_of terminal) has old new chars result before after
terminal_offers store terminal distinct has given t way chars result old new before after
    offers knows all keeps =
    subst
    (λ x. LeavesOffer kept_at_terminal waiting_at_terminal arrived_at_terminal store
    (sends_from (Some terminal)) (spools_of terminal) has old x chars result before after)
    (sym offers.state)
    (terminal_outlives_offers store terminal distinct has given t (select_of way) chars old result
    before after offers.tributary knows all keeps)

-- that ends its doubt
pub terminal_releases : (old new : LineTerminalValue) (count : ℕ)
    → ReleasesTerminal old count (Ok tt) new → TerminalGrows old new
terminal_releases old new count releases =
    let q = old.tributary.queue in
    let knows : KnowsMore q new.tributary.queue =
    subst (λ (l : LineTerminalValue). KnowsMore q l.tributary.queue) (sym releases.state)
    (release_knows old.tributary.sender q count) in
    record {
      knows = knows;
      there =
          were_waiting q new.tributary.queue knows releases.tributary.ready.queue.known;
      received = λ n.
          subst
          (λ l. ReceivedGrows (arrived_at_terminal old n) (arrived_at_terminal l n))
          (sym releases.state) (grows_not (arrived_at_terminal old n));
    }

-- or that accepts selections or asks for the line
pub terminal_sets : (has : Channel → Contents) (terminal : TerminalValue)
    (old new : LineTerminalValue)
    → ((ready : Bool) × (is_terminal : Bool) × ReadiesTerminal old ready is_terminal new)
    ⊎ ((is_terminal : Bool) × UrgesTerminal old is_terminal new)
    → HasStation kept_at_terminal waiting_at_terminal arrived_at_terminal has
    (sends_from (Some terminal)) (spools_of terminal) old
    → HasStation kept_at_terminal waiting_at_terminal arrived_at_terminal has
    (sends_from (Some terminal)) (spools_of terminal) new
terminal_sets has terminal old new (inl (ready, is_terminal, readies)) all =
    subst
    (HasStation kept_at_terminal waiting_at_terminal arrived_at_terminal has
    (sends_from (Some terminal)) (spools_of terminal))
    (sym readies.state) (record { sent = all.sent; received = all.received })
terminal_sets has terminal old new (inr (is_terminal, urges)) all =
    subst
    (HasStation kept_at_terminal waiting_at_terminal arrived_at_terminal has
    (sends_from (Some terminal)) (spools_of terminal))
    (sym urges.state) (record { sent = all.sent; received = all.received })

-- a control station that is offered a record
pub control_offers : {K : Type 0} (store : store_of.Ghosts K) (ts : List TerminalValue)
    → AreDistinct ts → (has : K → Channel → Contents) → KeepsGiven store has
    → (t : ℕ) (way : Way) (chars : List ℕ) (result : Result (List ℕ) StoreFault)
    (old new : ControlValue) (before after : Keeper K)
    → IsOfferedTo old t way chars new
    → Knows (has before.store) (sending_of ts Control) (receiving_of ts Control) before
    → HasStation kept_at_control waiting_at_control arrived_at_control (has before.store)
    (sending_of ts Control) (receiving_of ts Control) old
    → KeepsOffer store t (select_of way) chars result before after
    → LeavesOffer kept_at_control waiting_at_control arrived_at_control store
    (sending_of ts Control) (receiving_of ts Control) has old new chars result before after
control_offers store ts distinct has given t way chars result old new before after offers
    knows all keeps =
    subst
    (λ x. LeavesOffer kept_at_control waiting_at_control arrived_at_control store
    (sending_of ts Control) (receiving_of ts Control) has old x chars result before after)
    (sym offers.state)
    (control_offered_there store ts distinct has given t (select_of way) chars old result before
    after offers.control offers.terminal (selection_within_outbounds way _ offers.address) knows all keeps)

-- that ends a doubt
control_grown : (c : ControlValue) (t s count : ℕ) → IsControl (control_released c t s count)
    → ControlGrows c (control_released c t s count)
control_grown c t s count is =
    let o = outbound_of c t s in
    let p = peer_at c t in
    let q = with_outbound p s (outbound_released o count) in
    let new = control_released c t s count in
    let peers = length_of_set c.peers t q in
    let knows : (i j : ℕ) → KnowsMore (outbound_of c i j).queue (outbound_of new i j).queue =
    λ i j.
    know_at_peer c.peers t i j q
    (know_at_set p.outbounds s j (outbound_released o count)
    (release_knows o.sender o.queue count)) in
    record {
      knows = knows;
      there = λ i j.
          were_waiting (outbound_of c i j).queue (outbound_of new i j).queue (knows i j)
          (sides_within new is i j);
      peers = peers;
      outbounds = λ i.
          value_kept_by_set (λ (x : PeerValue). length x.outbounds) c.peers t i q no_peer
          (length_of_set p.outbounds s (outbound_released o count));
      received = λ n. grown_from c new n peers (
        [],
        value_kept_by_set (λ (x : PeerValue). x.spool.records) c.peers t n q no_peer refl
            ∙ sym (append-nil (peer_at c n).spool.records),
      );
    }

pub control_releases : (old new : ControlValue) (t : ℕ) (way : Way) (count : ℕ)
    → ReleasesControl old t way count (Ok tt) new → ControlGrows old new
control_releases old new t way count releases =
    subst (ControlGrows old) (sym releases.state)
    (control_grown old t (select_of way) count (subst IsControl releases.state releases.control))

-- or that is asked for what only a terminal does
pub control_sets : (has : Channel → Contents) (ts : List TerminalValue) (old new : ControlValue)
    → ((ready : Bool) × (is_terminal : Bool) × IsNoTerminal old is_terminal new)
    ⊎ ((is_terminal : Bool) × IsNoTerminal old is_terminal new)
    → HasStation kept_at_control waiting_at_control arrived_at_control has (sending_of ts Control)
    (receiving_of ts Control) old
    → HasStation kept_at_control waiting_at_control arrived_at_control has (sending_of ts Control)
    (receiving_of ts Control) new
control_sets has ts old new (inl (ready, is_terminal, none)) all =
    subst
    (HasStation kept_at_control waiting_at_control arrived_at_control has (sending_of ts Control)
    (receiving_of ts Control))
    (sym none.same) all
control_sets has ts old new (inr (is_terminal, none)) all =
    subst
    (HasStation kept_at_control waiting_at_control arrived_at_control has (sending_of ts Control)
    (receiving_of ts Control))
    (sym none.same) all
