-- A refused event changes nothing, and trust only falls.
use Rattle.std.proofs.Common.{◌≡◌, ℕ, ◌+◌, Bool, true, false, ◌==◌, ◌||◌, List, length, IsTrue}
use Rattle.std.proofs.Common.{Option, None, Some, Ok, Err, refl, sym, ◌∙◌, ap, if◌then◌else◌}
use Rattle.std.proofs.lemmas.List.{set-get_or}
use Rattle.std.specs.Borrow.{Bor}
use Rattle.bsc_frame.specs.declared.message.Message.{Message}
use Rattle.bsc_frame.specs.declared.message.Heard.{Heard}
use Rattle.bsc_frame.specs.declared.message.Heard.TheVariants.{Whole}
use Rattle.bsc_spool.specs.Queue.{QueueValue}
use Rattle.bsc_bid.specs.declared.phase.Phase.{Phase}
use Rattle.bsc_bid.specs.declared.phase.Phase.TheVariants.{Idle, Unanswered, Held, InDoubt}
use Rattle.bsc_bid.specs.declared.sender.ReleaseError.TheVariants as r
use Rattle.bsc_bid.specs.Sender.{SenderValue, ReleaseStep, release_in, release_step, released}
use Rattle.bsc_bid.specs.Sender.{not_released}
use Rattle.bsc_tributary.specs.Tributary.{TributaryValue, spool_at, after_release}
use Rattle.bsc_bid.specs.declared.way.Way.{Way}
use Rattle.bsc_bid.specs.declared.way.Way.TheVariants.{FromTerminal, ToTerminal}
use Rattle.bsc_control.specs.Peer.{PeerValue, OutboundValue, no_peer, no_outbound, outbound_at}
use Rattle.bsc_control.specs.Peer.{with_outbound, outbound_released}
use Rattle.bsc_control.specs.Control.{ControlValue, peer_at, with_peer}
use Rattle.bsc_bid.specs.declared.speaker.Speaker.{Speaker}
use Rattle.bsc_bid.specs.declared.speaker.Speaker.TheVariants.{Control, Terminal}
use Rattle.bsc_line_model.specs.declared.transmission.Transmission.{Transmission}
use Rattle.bsc_line_model.specs.declared.error.LineError.{LineError}
use Rattle.bsc_line_model.specs.declared.error.LineError.TheVariants as e
use Rattle.bsc_line_model.specs.declared.event.Event.{Event}
use Rattle.bsc_line_model.specs.Restarts.{restarted, Restarts}
use Rattle.bsc_line_model.specs.declared.event.Event.TheVariants.{OfferAt, OfferFor, Carry}
use Rattle.bsc_line_model.specs.declared.event.Event.TheVariants.{CarryEach, CarrySent, Silence}
use Rattle.bsc_line_model.specs.declared.event.Event.TheVariants.{Ready, UrgentAt, UrgentFor}
use Rattle.bsc_line_model.specs.declared.event.Event.TheVariants.{Polled, Release, Restart}
use Rattle.bsc_line_model.specs.Hearing.{heard_in, octets_in}
use Rattle.bsc_line_model.specs.Line.{LineValue, no_terminal, terminal_at, with_terminal}
use Rattle.bsc_line_model.specs.Line.{with_control}
use Rattle.bsc_line_model.specs.Terminals.{line_owner}
use Rattle.bsc_line_model.specs.Carries.{IsCarriedBy, OwnerActs}
use Rattle.bsc_line_model.specs.Offers.{told, OffersAt, OffersFor, Sets, ReleasesWay, Releases}
use Rattle.bsc_line_model.specs.Offers.{ready_set, urgent_set_at, urgent_set_for, polled_set}
use Rattle.bsc_line_model.specs.Runs.{CarriesAs, Carries, CarriesEach, FallsSilent, Does}

-- offers and flags
offer_at_refused : (old : LineValue) (t : ℕ) (codes : List ℕ) (why : LineError) (new : LineValue)
    → OffersAt old t codes (Err why) new → new ≡ old
offer_at_refused old t codes e.NoSuchTerminal new d = d.1
offer_at_refused old t codes (e.BadRecord x) new d = d.2
offer_at_refused old t codes e.Memory new d = d.2
offer_at_refused old t codes _ new d = absurd d

offer_for_refused : (old : LineValue) (t s : ℕ) (codes : List ℕ) (why : LineError) (new : LineValue)
    → OffersFor old t s codes (Err why) new → new ≡ old
offer_for_refused old t s codes e.NoSuchTerminal new d = d.1
offer_for_refused old t s codes e.NoSuchAddress new d = d.2
offer_for_refused old t s codes (e.BadRecord x) new d = d.3
offer_for_refused old t s codes e.Memory new d = d.3
offer_for_refused old t s codes _ new d = absurd d

set_refused : (old : LineValue) (t : ℕ) (set : LineValue) (why : LineError) (new : LineValue)
    → Sets old t set (Err why) new → new ≡ old
set_refused old t set e.NoSuchTerminal new d = d.1
set_refused old t set _ new d = absurd d

-- carries and silences
carry_refused : (hear : Transmission → Heard) (old : LineValue) (why : LineError) (new : LineValue)
    → Carries hear old (Err why) new → new ≡ old
carry_refused hear old e.NothingSent new d = d.1
carry_refused hear old _ new d = absurd d

carry_each_refused : (items : List (Option (Bor (List ℕ)))) (old : LineValue) (why : LineError)
    (new : LineValue) → CarriesEach items old (Err why) new → new ≡ old
carry_each_refused items old e.NothingSent new d = d.1
carry_each_refused items old e.NotControl new d = d.1
carry_each_refused items old e.WrongCount new d = d.2
carry_each_refused items old _ new d = absurd d

silence_refused : (old : LineValue) (why : LineError) (new : LineValue)
    → FallsSilent old (Err why) new → new ≡ old
silence_refused old e.Pending new d = d.1
silence_refused old _ new d = absurd d

-- a release that is refused leaves the sender and its queue
pub record LeavesAll (s : SenderValue) (q : QueueValue) (step : ReleaseStep) : Type 0 where
  pub sender : step.sender ≡ s
  pub queue : step.queue ≡ q

refused_release_leaves_all : (s : SenderValue) (q : QueueValue) (n : ℕ) (why : LineError) (phase : Phase) → Err why
    ≡ told (release_in s q phase n).answer → LeavesAll s q (release_in s q phase n)
refused_release_leaves_all s q n why Idle h = record { sender = refl; queue = refl }
refused_release_leaves_all s q n why (Unanswered b) h = record { sender = refl; queue = refl }
refused_release_leaves_all s q n why (Held end x) h = record { sender = refl; queue = refl }
refused_release_leaves_all s q n why (InDoubt k) h = mismatch_leaves_all ((n == q.known) || (n == (q.known + k))) h
  where
    mismatch_leaves_all : (b : Bool)
        → Err why ≡ told (if b then released s q n else not_released s q r.CountMismatch).answer
        → LeavesAll s q (if b then released s q n else not_released s q r.CountMismatch)
    mismatch_leaves_all true f = absurd (cc)
    mismatch_leaves_all false f = record { sender = refl; queue = refl }

release_refused : (old : LineValue) (t : ℕ) (way : Way) (why : LineError) (new : LineValue)
    → ReleasesWay old t way (Err why) new → new ≡ old
release_refused old t FromTerminal why new d =
    let x : TributaryValue = terminal_at old t in
    let n : ℕ = length (peer_at old.control t).spool.records in
    let same : LeavesAll x.sender x.queue (release_step x.sender x.queue n) =
    refused_release_leaves_all x.sender x.queue n why x.sender.phase d.answer in
    let this : after_release x n ≡ x =
    ap (λ (z : SenderValue). record x {
      sender = z;
      queue =
          (release_step x.sender x.queue n).queue;
    }) same.sender
    ∙ ap (λ (q : QueueValue). record x { queue = q }) same.queue in
    d.becomes ∙ ap (λ (y : TributaryValue). with_terminal old t y) this
    ∙ ap (λ (ts : List TributaryValue). record old { terminals = ts })
    (set-get_or old.terminals t no_terminal)
release_refused old t (ToTerminal s) why new d =
    let c : ControlValue = old.control in
    let p : PeerValue = peer_at c t in
    let o : OutboundValue = outbound_at p s in
    let n : ℕ = length (spool_at (terminal_at old t).spools s).records in
    let same : LeavesAll o.sender o.queue (release_step o.sender o.queue n) =
    refused_release_leaves_all o.sender o.queue n why o.sender.phase d.answer in
    let this : outbound_released o n ≡ o =
    ap (λ (z : SenderValue). record o {
      sender = z;
      queue =
          (release_step o.sender o.queue n).queue;
    }) same.sender
    ∙ ap (λ (q : QueueValue). record o { queue = q }) same.queue in
    d.becomes
    ∙ ap (λ (y : OutboundValue). with_control old (with_peer c t (with_outbound p s y))) this
    ∙ ap (λ (os : List OutboundValue). with_control old
    (with_peer c t (record p { outbounds = os }))) (set-get_or p.outbounds s no_outbound)
    ∙ ap (λ (ps : List PeerValue). with_control old (record c { peers = ps }))
    (set-get_or c.peers t no_peer)

releases_refused : (old : LineValue) (t : ℕ) (way : Way) (why : LineError) (new : LineValue)
    → Releases old t way (Err why) new → new ≡ old
releases_refused old t way e.NoSuchTerminal new d = d.1
releases_refused old t way e.NoSuchAddress new d = d.2
releases_refused old t way e.NothingSent new d = release_refused old t way e.NothingSent new d
releases_refused old t way e.NotControl new d = release_refused old t way e.NotControl new d
releases_refused old t way e.WrongCount new d = release_refused old t way e.WrongCount new d
releases_refused old t way e.Pending new d = release_refused old t way e.Pending new d
releases_refused old t way (e.BadRecord x) new d = release_refused old t way (e.BadRecord x) new d
releases_refused old t way e.Memory new d = release_refused old t way e.Memory new d
releases_refused old t way e.NotInDoubt new d = release_refused old t way e.NotInDoubt new d
releases_refused old t way e.CountMismatch new d = release_refused old t way e.CountMismatch new d

restart_refused : (old : LineValue) (party : Speaker) (why : LineError) (new : LineValue)
    → Restarts old party (Err why) new → new ≡ old
restart_refused old party e.NoSuchTerminal new d = d.1
restart_refused old party _ new d = absurd d

pub nothing_changed : (event : Event) (old new : LineValue) (why : LineError)
    → Does event old (Err why) new → new ≡ old
nothing_changed (OfferAt t x) old new why d = offer_at_refused old t x.now why new d
nothing_changed (OfferFor t s x) old new why d = offer_for_refused old t s x.now why new d
nothing_changed (Carry item) old new why d =
    carry_refused (λ sent. heard_in (octets_in item)) old why new d
nothing_changed (CarryEach items) old new why d = carry_each_refused items.now old why new d
nothing_changed CarrySent old new why d = carry_refused (λ sent. Whole sent.message) old why new d
nothing_changed Silence old new why d = silence_refused old why new d
nothing_changed (Ready t ready) old new why d = set_refused old t (ready_set old t ready) why new d
nothing_changed (UrgentAt t) old new why d = set_refused old t (urgent_set_at old t) why new d
nothing_changed (UrgentFor t) old new why d = set_refused old t (urgent_set_for old t) why new d
nothing_changed (Polled t polled) old new why d =
    set_refused old t (polled_set old t polled) why new d
nothing_changed (Release t way) old new why d = releases_refused old t way why new d
nothing_changed (Restart party) old new why d = restart_refused old party why new d

-- trust only falls
carry_trusted : (old new : LineValue) (speaker : Speaker) (w : Message) (h : Heard)
    → IsCarriedBy speaker w h old new → IsTrue new.trusted → IsTrue old.trusted
carry_trusted old new Control w h k now = (k.trusted.0 now).0
carry_trusted old new (Terminal t) w h k now = (k.trusted.0 now).0

carries_trusted : (hear : Transmission → Heard) (old new : LineValue) → CarriesAs hear old new
    → IsTrue new.trusted → IsTrue old.trusted
carries_trusted hear old new k now =
    carry_trusted old new k.sent.speaker k.sent.message (hear k.sent) k.carried now

silence_trusted : (old new : LineValue) (owner : Option ℕ) → OwnerActs owner old new
    → IsTrue new.trusted → IsTrue old.trusted
silence_trusted old new None k now = sym (ap (λ (l : LineValue). l.trusted) k.becomes) ∙ now
silence_trusted old new (Some t) k now = sym (ap (λ (l : LineValue). l.trusted) k.becomes) ∙ now

release_trusted : (old new : LineValue) (t : ℕ) (way : Way) → ReleasesWay old t way (Ok tt) new
    → IsTrue new.trusted → IsTrue old.trusted
release_trusted old new t FromTerminal k now = sym (ap (λ (l : LineValue). l.trusted) k.becomes)
    ∙ now
release_trusted old new t (ToTerminal s) k now = sym (ap (λ (l : LineValue). l.trusted) k.becomes)
    ∙ now

restart_trusted : (l : LineValue) (party : Speaker) → (restarted l party).trusted ≡ l.trusted
restart_trusted l Control = refl
restart_trusted l (Terminal t) = refl

pub was_trusted : (event : Event) (old new : LineValue) → Does event old (Ok tt) new
    → IsTrue new.trusted → IsTrue old.trusted
was_trusted (OfferAt t x) old new d now = sym (ap (λ (l : LineValue). l.trusted) d.2) ∙ now
was_trusted (OfferFor t s x) old new d now = sym (ap (λ (l : LineValue). l.trusted) d.3) ∙ now
was_trusted (Carry item) old new d now =
    carries_trusted (λ sent. heard_in (octets_in item)) old new d now
was_trusted (CarryEach items) old new d now = (d.carried.trusted.0 now).0
was_trusted CarrySent old new d now = carries_trusted (λ sent. Whole sent.message) old new d now
was_trusted Silence old new d now = silence_trusted old new (line_owner old.terminals) d.acts now
was_trusted (Ready t ready) old new d now = sym (ap (λ (l : LineValue). l.trusted) d.1) ∙ now
was_trusted (UrgentAt t) old new d now = sym (ap (λ (l : LineValue). l.trusted) d.1) ∙ now
was_trusted (UrgentFor t) old new d now = sym (ap (λ (l : LineValue). l.trusted) d.1) ∙ now
was_trusted (Polled t polled) old new d now =
    sym (ap (λ (l : LineValue). l.trusted) d.1) ∙ now
was_trusted (Release t way) old new d now = release_trusted old new t way d now
was_trusted (Restart party) old new d now =
    sym (ap (λ (l : LineValue). l.trusted) d.1 ∙ restart_trusted old party) ∙ now
