-- Offers, flags and releases: which channel moves, and how.
use Rattle.std.proofs.Common.{◌≡◌, ◌≢◌, inl, inr, ℕ, ◌+◌, ◌<◌, Bool, true, false, ◌==◌, ◌||◌, List}
use Rattle.std.proofs.Common.{length, Ok, refl, sym, ◌∙◌, ap, subst, get_or-set_other}
use Rattle.std.proofs.Common.{get_or-set_same, if◌then◌else◌}
use Rattle.bsc_spool.specs.Queue.{QueueValue, queue_of, with_offered}
use Rattle.bsc_spool.specs.Spool.{SpoolValue}
use Rattle.bsc_bid.specs.declared.phase.Phase.{Phase}
use Rattle.bsc_bid.specs.declared.phase.Phase.TheVariants.{Idle, Unanswered, Held, InDoubt}
use Rattle.bsc_bid.specs.declared.sender.ReleaseError.TheVariants.{CountMismatch}
use Rattle.bsc_bid.specs.Sender.{SenderValue, release_in, released, not_released}
use Rattle.bsc_bid.specs.Channel.{Channel, channel, Move, Offer, Learn, Makes}
use Rattle.bsc_tributary.specs.Tributary.{TributaryValue, spool_at, after_release}
use Rattle.bsc_bid.specs.declared.way.Way.{Way}
use Rattle.bsc_bid.specs.declared.way.Way.TheVariants.{FromTerminal, ToTerminal}
use Rattle.bsc_control.specs.Peer.{PeerValue, OutboundValue, no_peer, no_outbound, outbound_at}
use Rattle.bsc_control.specs.Peer.{with_outbound, offered, offered_to, outbound_released}
use Rattle.bsc_control.specs.Control.{ControlValue, peer_at, with_peer}
use Rattle.bsc_control.specs.Kept.{outbound_of}
use Rattle.bsc_line_model.specs.Line.{LineValue, no_terminal, terminal_in, terminal_at, terminal_count}
use Rattle.bsc_line_model.specs.Line.{with_terminal, with_control, channel_of}
use Rattle.bsc_line_model.specs.Offers.{told}
use Rattle.bsc_line_model.specs.ChannelSteps.{MovesOne, MovesNothing}
use Rattle.bsc_line_model.proofs.Stations.{same_or_not}

-- the channels do not depend on the pending transmission and on the trust
abbrev pub same_stations : LineValue → LineValue → Type 0
same_stations a b = (b.control ≡ a.control) × (b.terminals ≡ a.terminals)

pub same_channels_of_same_stations : (a b : LineValue) (t : ℕ) (way : Way) → same_stations a b → channel_of b t way
    ≡ channel_of a t way
same_channels_of_same_stations a b t FromTerminal e =
    ap (λ (ts : List TributaryValue). channel (terminal_in ts t).queue
    (peer_at b.control t).spool.records) e.1
    ∙ ap (λ (c : ControlValue). channel (terminal_at a t).queue (peer_at c t).spool.records) e.0
same_channels_of_same_stations a b t (ToTerminal s) e =
    ap (λ (ts : List TributaryValue). channel (outbound_of b.control t s).queue
    (spool_at (terminal_in ts t).spools s).records) e.1
    ∙ ap (λ (c : ControlValue). channel (outbound_of c t s).queue
    (spool_at (terminal_at a t).spools s).records) e.0

-- the terminal that was written, and another one
written_terminal : (l : LineValue) (t : ℕ) (u : TributaryValue) → t < terminal_count l
    → terminal_at (with_terminal l t u) t ≡ u
written_terminal l t u there = get_or-set_same l.terminals t u no_terminal there

other_terminal_unchanged : (l : LineValue) (t n : ℕ) (u : TributaryValue) → n ≢ t
    → terminal_at (with_terminal l t u) n ≡ terminal_at l n
other_terminal_unchanged l t n u differ = get_or-set_other l.terminals t n u no_terminal differ

-- the channels between a peer and a terminal
abbrev channel_between : PeerValue → TributaryValue → Way → Channel
channel_between p x FromTerminal = channel x.queue p.spool.records
channel_between p x (ToTerminal s) = channel (outbound_at p s).queue (spool_at x.spools s).records

channel_of_is : (l : LineValue) (t : ℕ) (way : Way) → channel_of l t way
    ≡ channel_between (peer_at l.control t) (terminal_at l t) way
channel_of_is l t FromTerminal = refl
channel_of_is l t (ToTerminal s) = refl

-- one terminal was replaced: its own channels, and all others
terminal_elsewhere : (l : LineValue) (t : ℕ) (u : TributaryValue) (n : ℕ) (way : Way) → n ≢ t
    → channel_of (with_terminal l t u) n way ≡ channel_of l n way
terminal_elsewhere l t u n way differ =
    channel_of_is (with_terminal l t u) n way
    ∙ ap (λ (y : TributaryValue). channel_between (peer_at l.control n) y way)
    (other_terminal_unchanged l t n u differ) ∙ sym (channel_of_is l n way)

channel_with_terminal : (l : LineValue) (t : ℕ) (u : TributaryValue) (way : Way)
    → t < terminal_count l
    → channel_of (with_terminal l t u) t way ≡ channel_between (peer_at l.control t) u way
channel_with_terminal l t u way there = channel_of_is (with_terminal l t u) t way
    ∙ ap (λ (y : TributaryValue). channel_between (peer_at l.control t) y way)
    (written_terminal l t u there)

-- only the channel from the terminal may move
pub terminal_moves : (l : LineValue) (t : ℕ) (u : TributaryValue) (move : Move) → t
    < terminal_count l → u.spools ≡ (terminal_at l t).spools
    → Makes move (channel_of l t FromTerminal) (channel u.queue (peer_at l.control t).spool.records)
    → MovesOne t FromTerminal move l (with_terminal l t u)
terminal_moves l t u move there spools makes =
    record {
      this =
          subst (λ (k : Channel). Makes move (channel_of l t FromTerminal) k)
          (sym (channel_with_terminal l t u FromTerminal there)) makes;
      others = λ n way is apart.
          elim (same_or_not n t) [
            | inl same ↦ by_way n way same (apart same)
            | inr differ ↦ terminal_elsewhere l t u n way differ
          ];
    }
  where
    by_way : (n : ℕ) (way : Way) → n ≡ t → (way ≡ FromTerminal → ⊥)
        → channel_of (with_terminal l t u) n way ≡ channel_of l n way
    by_way n FromTerminal same apart = absurd (apart refl)
    by_way n (ToTerminal s) same apart =
        subst (λ (j : ℕ). channel_of (with_terminal l t u) j (ToTerminal s)
        ≡ channel_of l j (ToTerminal s)) (sym same)
        (channel_with_terminal l t u (ToTerminal s) there
        ∙ ap (λ (zs : List SpoolValue). channel (outbound_at (peer_at l.control t) s).queue
        (spool_at zs s).records) spools)

-- no channel moves
pub no_move_of_same_terminal : (l : LineValue) (t : ℕ) (u : TributaryValue) → t < terminal_count l → u.queue
    ≡ (terminal_at l t).queue → u.spools ≡ (terminal_at l t).spools
    → MovesNothing l (with_terminal l t u)
no_move_of_same_terminal l t u there queue spools n way is =
    elim (same_or_not n t) [
      | inl same ↦ subst (λ (j : ℕ). channel_of (with_terminal l t u) j way ≡ channel_of l j way)
          (sym same) (by_way way)
      | inr differ ↦ terminal_elsewhere l t u n way differ
    ]
  where
    by_way : (way : Way) → channel_of (with_terminal l t u) t way ≡ channel_of l t way
    by_way FromTerminal = channel_with_terminal l t u FromTerminal there
        ∙ ap (λ (q : QueueValue). channel q (peer_at l.control t).spool.records) queue
    by_way (ToTerminal s) = channel_with_terminal l t u (ToTerminal s) there
        ∙ ap (λ (zs : List SpoolValue). channel (outbound_at (peer_at l.control t) s).queue
        (spool_at zs s).records) spools

-- what the control station keeps for one terminal was replaced
abbrev with_kept : LineValue → ℕ → PeerValue → LineValue
with_kept l t q = with_control l (with_peer l.control t q)

peer_elsewhere : (l : LineValue) (t : ℕ) (q : PeerValue) (n : ℕ) (way : Way) → n ≢ t
    → channel_of (with_kept l t q) n way ≡ channel_of l n way
peer_elsewhere l t q n way differ =
    channel_of_is (with_kept l t q) n way
    ∙ ap (λ (z : PeerValue). channel_between z (terminal_at l n) way)
    (get_or-set_other l.control.peers t n q no_peer differ) ∙ sym (channel_of_is l n way)

channel_with_kept : (l : LineValue) (t : ℕ) (q : PeerValue) (way : Way) → t < length l.control.peers
    → channel_of (with_kept l t q) t way ≡ channel_between q (terminal_at l t) way
channel_with_kept l t q way there = channel_of_is (with_kept l t q) t way
    ∙ ap (λ (z : PeerValue). channel_between z (terminal_at l t) way)
    (get_or-set_same l.control.peers t q no_peer there)

pub no_move_of_same_peer : (l : LineValue) (t : ℕ) (q : PeerValue) → t < length l.control.peers → q.spool
    ≡ (peer_at l.control t).spool → q.outbounds ≡ (peer_at l.control t).outbounds
    → MovesNothing l (with_kept l t q)
no_move_of_same_peer l t q there spool outbounds n way is =
    elim (same_or_not n t) [
      | inl same ↦ subst (λ (j : ℕ). channel_of (with_kept l t q) j way ≡ channel_of l j way)
          (sym same) (by_way way)
      | inr differ ↦ peer_elsewhere l t q n way differ
    ]
  where
    by_way : (way : Way) → channel_of (with_kept l t q) t way ≡ channel_of l t way
    by_way FromTerminal = channel_with_kept l t q FromTerminal there
        ∙ ap (λ (z : SpoolValue). channel (terminal_at l t).queue z.records) spool
    by_way (ToTerminal s) = channel_with_kept l t q (ToTerminal s) there
        ∙ ap (λ (os : List OutboundValue). channel
        (outbound_at (record q { outbounds = os }) s).queue
        (spool_at (terminal_at l t).spools s).records) outbounds

-- the queue of one selection address was replaced
pub outbound_moves : (l : LineValue) (t s : ℕ) (o : OutboundValue) (move : Move) → t
    < length l.control.peers → s < length (peer_at l.control t).outbounds
    → Makes move (channel_of l t (ToTerminal s))
    (channel o.queue (spool_at (terminal_at l t).spools s).records) →
    MovesOne t (ToTerminal s) move l (with_kept l t (with_outbound (peer_at l.control t) s o))
outbound_moves l t s o move there select makes =
    record {
      this = subst (λ (k : Channel). Makes move (channel_of l t (ToTerminal s)) k)
          (sym (channel_with_kept l t (with_outbound (peer_at l.control t) s o) (ToTerminal s) there
          ∙ ap (λ (z : OutboundValue). channel z.queue
          (spool_at (terminal_at l t).spools s).records)
          (get_or-set_same (peer_at l.control t).outbounds s o no_outbound select)))
          makes;
      others = λ n way is apart.
          elim (same_or_not n t) [
            | inl same ↦ by_way n way same (apart same)
            | inr differ ↦ peer_elsewhere l t (with_outbound (peer_at l.control t) s o) n way differ
          ];
    }
  where
    by_way : (n : ℕ) (way : Way) → n ≡ t → (way ≡ ToTerminal s → ⊥)
        → channel_of (with_kept l t (with_outbound (peer_at l.control t) s o)) n way
        ≡ channel_of l n way
    by_way n FromTerminal same apart =
        subst (λ (j : ℕ). channel_of (with_kept l t (with_outbound (peer_at l.control t) s o)) j
        FromTerminal ≡ channel_of l j FromTerminal) (sym same)
        (channel_with_kept l t (with_outbound (peer_at l.control t) s o) FromTerminal there)
    by_way n (ToTerminal k) same apart =
        let differ : k ≢ s = λ e. apart (ap (λ (j : ℕ). ToTerminal j) e) in
        subst (λ (j : ℕ). channel_of (with_kept l t (with_outbound (peer_at l.control t) s o)) j
        (ToTerminal k) ≡ channel_of l j (ToTerminal k)) (sym same)
        (channel_with_kept l t (with_outbound (peer_at l.control t) s o) (ToTerminal k) there
        ∙ ap (λ (z : OutboundValue). channel z.queue (spool_at (terminal_at l t).spools k).records)
        (get_or-set_other (peer_at l.control t).outbounds s k o no_outbound differ))

-- an offer
pub offer_at_moves : (l : LineValue) (t : ℕ) (r : List ℕ) → t < terminal_count l
    → MovesOne t FromTerminal (Offer r) l
    (with_terminal l t (record (terminal_at l t)
    { queue = with_offered (terminal_at l t).queue r }))
offer_at_moves l t r there =
    terminal_moves l t (record (terminal_at l t) { queue = with_offered (terminal_at l t).queue r })
    (Offer r) there refl refl

pub offer_for_moves : (l : LineValue) (t s : ℕ) (r : List ℕ) → t < length l.control.peers → s
    < length (peer_at l.control t).outbounds
    → MovesOne t (ToTerminal s) (Offer r) l (with_kept l t (offered_to (peer_at l.control t) s r))
offer_for_moves l t s r there select =
    outbound_moves l t s (offered (outbound_at (peer_at l.control t) s) r) (Offer r) there select
    refl

-- after an accepted release the spooled records are known
released_knows : (s : SenderValue) (q : QueueValue) (n : ℕ) (phase : Phase) (done : Unit {0})
    → Ok done ≡ told (release_in s q phase n).answer → (release_in s q phase n).queue
    ≡ queue_of q.format q.offered n
released_knows s q n Idle done e = absurd (cc)
released_knows s q n (Unanswered b) done e = absurd (cc)
released_knows s q n (Held end x) done e = absurd (cc)
released_knows s q n (InDoubt k) done e = by_test ((n == q.known) || (n == (q.known + k))) e
  where
    by_test : (b : Bool)
        → Ok done ≡ told (if b then released s q n else not_released s q CountMismatch).answer
        → (if b then released s q n else not_released s q CountMismatch).queue
        ≡ queue_of q.format q.offered n
    by_test true h = refl
    by_test false h = absurd (cc)

pub release_from_moves : (l : LineValue) (t : ℕ) (done : Unit {0}) → t < terminal_count l →
    Ok done
    ≡ told (release_in (terminal_at l t).sender (terminal_at l t).queue
    (terminal_at l t).sender.phase (length (peer_at l.control t).spool.records)).answer →
    MovesOne t FromTerminal Learn l (with_terminal l t
    (after_release (terminal_at l t) (length (peer_at l.control t).spool.records)))
release_from_moves l t done there e =
    let x : TributaryValue = terminal_at l t in
    let n : ℕ = length (peer_at l.control t).spool.records in
    terminal_moves l t (after_release x n) Learn there refl
    (ap (λ (q : QueueValue). channel q (peer_at l.control t).spool.records)
    (released_knows x.sender x.queue n x.sender.phase done e))

pub release_to_moves : (l : LineValue) (t s : ℕ) (done : Unit {0}) → t < length l.control.peers → s
    < length (peer_at l.control t).outbounds →
    let o : OutboundValue = outbound_at (peer_at l.control t) s in
    let n : ℕ = length (spool_at (terminal_at l t).spools s).records in
    Ok done ≡ told (release_in o.sender o.queue o.sender.phase n).answer
    → MovesOne t (ToTerminal s) Learn l
    (with_kept l t (with_outbound (peer_at l.control t) s (outbound_released o n)))
release_to_moves l t s done there select e =
    let o : OutboundValue = outbound_at (peer_at l.control t) s in
    let n : ℕ = length (spool_at (terminal_at l t).spools s).records in
    outbound_moves l t s (outbound_released o n) Learn there select
    (ap (λ (q : QueueValue). channel q (spool_at (terminal_at l t).spools s).records)
    (released_knows o.sender o.queue n o.sender.phase done e))
