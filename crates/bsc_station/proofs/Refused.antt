-- A release that is refused changes nothing.
use Rattle.std.proofs.Common.{◌≡◌, ◌∙◌, ◌+◌, ◌==◌, ◌||◌, ℕ, zero, suc, Bool, true, false, List, []}
use Rattle.std.proofs.Common.{◌∷◌, Result, Ok, Err, OnErr, refl, sym, ap, if◌then◌else◌}
use Rattle.std.specs.Prelude.{slice_index_or, slice_set}
use Rattle.bsc_spool.specs.Queue.{QueueValue}
use Rattle.bsc_bid.specs.Sender.{ReleaseStep, SenderValue, not_released, release_in, release_step}
use Rattle.bsc_bid.specs.Sender.{released}
use Rattle.bsc_bid.specs.declared.phase.Phase.{Phase}
use Rattle.bsc_bid.specs.declared.phase.Phase.TheVariants.{Held, Idle, InDoubt, Unanswered}
use Rattle.bsc_bid.specs.declared.sender.ReleaseError.{ReleaseError}
use Rattle.bsc_bid.specs.declared.sender.ReleaseError.TheVariants.{CountMismatch}
use Rattle.bsc_control.specs.Control.{ControlValue, peer_at, with_peer}
use Rattle.bsc_control.specs.Kept.{outbound_of}
use Rattle.bsc_control.specs.Peer.{OutboundValue, PeerValue, no_outbound, no_peer}
use Rattle.bsc_control.specs.Peer.{outbound_released, with_outbound}
use Rattle.bsc_station.specs.LineTerminal.{LineTerminalValue, line_terminal_of}
use Rattle.bsc_tributary.specs.Tributary.{after_release}

-- what a step leaves is what was there
record Stays (s : SenderValue) (q : QueueValue) (step : ReleaseStep) : Type 0 where
  sender : step.sender ≡ s
  queue : step.queue ≡ q

by_count : (b : Bool) (s : SenderValue) (q : QueueValue) (count : ℕ) (error : ReleaseError)
    → (if b then released s q count else not_released s q CountMismatch).answer ≡ Err error
    → Stays s q (if b then released s q count else not_released s q CountMismatch)
by_count true s q count error refused = absurd cc
by_count false s q count error refused = record { sender = refl; queue = refl }

by_phase : (p : Phase) (s : SenderValue) (q : QueueValue) (count : ℕ) (error : ReleaseError)
    → (release_in s q p count).answer ≡ Err error → Stays s q (release_in s q p count)
by_phase (InDoubt k) s q count error refused =
    by_count ((count == q.known) || (count == (q.known + k))) s q count error refused
by_phase Idle s q count error refused = record { sender = refl; queue = refl }
by_phase (Unanswered b) s q count error refused = record { sender = refl; queue = refl }
by_phase (Held end alternation) s q count error refused = record { sender = refl; queue = refl }

-- an element takes its own place
set_itself : {X : Type 0} (xs : List X) (i : ℕ) (d : X)
    → slice_set xs i (slice_index_or xs i d) ≡ xs
set_itself [] i d = refl
set_itself (x ∷ xs) zero d = refl
set_itself (x ∷ xs) (suc i) d = ap (λ (ys : List _). x ∷ ys) (set_itself xs i d)

pub refused_control : (c : ControlValue) (t s count : ℕ) (error : ReleaseError)
    → (release_step (outbound_of c t s).sender (outbound_of c t s).queue count).answer ≡ Err error
    → with_peer c t (with_outbound (peer_at c t) s (outbound_released (outbound_of c t s) count))
    ≡ c
refused_control c t s count error refused =
    let o = outbound_of c t s in
    let stays = by_phase o.sender.phase o.sender o.queue count error refused in
    let side : outbound_released o count ≡ o =
    λ i. record { sender = stays.sender i; queue = stays.queue i } in
    ap (λ (x : OutboundValue). with_peer c t (with_outbound (peer_at c t) s x)) side
    ∙ ap (λ (os : List OutboundValue). with_peer c t (record (peer_at c t) { outbounds = os }))
    (set_itself (peer_at c t).outbounds s no_outbound)
    ∙ ap (λ (ps : List PeerValue). record c { peers = ps }) (set_itself c.peers t no_peer)

pub control_unless_released : (old new : ControlValue) (t s count : ℕ)
    (answer : Result (Unit {0}) ReleaseError)
    → answer ≡ (release_step (outbound_of old t s).sender (outbound_of old t s).queue count).answer
    → new
    ≡ with_peer old t
    (with_outbound (peer_at old t) s (outbound_released (outbound_of old t s) count))
    → OnErr answer (new ≡ old)
control_unless_released old new t s count (Ok released) is after = tt
control_unless_released old new t s count (Err error) is after =
    after ∙ refused_control old t s count error (sym is)

pub refused_terminal : (l : LineTerminalValue) (count : ℕ) (error : ReleaseError)
    → (release_step l.tributary.sender l.tributary.queue count).answer ≡ Err error
    → line_terminal_of l.number (after_release l.tributary count) ≡ l
refused_terminal l count error refused =
    let t = l.tributary in
    let stays = by_phase t.sender.phase t.sender t.queue count error refused in
    λ i.
    line_terminal_of l.number (record t { sender = stays.sender i; queue = stays.queue i })
