-- Which terminal owns which connection, over whatever happens.
use Rattle.std.proofs.Common.{◌≡◌, ◌≢◌, ◌⊎◌, inl, inr, ℕ, zero, suc, ◌<◌, Bool, true, false}
use Rattle.std.proofs.Common.{cond, ◌||◌}
use Rattle.std.proofs.Common.{List, [], ◌∷◌, length, refl, sym, ◌∙◌, ap, subst, arith}
use Rattle.std.proofs.Common.{Option, None, Some, length-set}
use Rattle.std.proofs.lemmas.Bool.{eqb-true, eq-eqb, or_parts}
use Rattle.std.proofs.lemmas.Bool.Decides.{eqb_tells}
use Rattle.std.proofs.Math.ListN.{length-replicate, replicate}
use Rattle.std.specs.Prelude.{is_none, ◌==◌, slice_set}
use Rattle.std.specs.List.{list_any}
use Rattle.bsc_carrier.specs.declared.limits.TheConstants.{MAX_CONNECTIONS}
use Rattle.bsc_frame.specs.declared.message.Heard.{Heard}
use Rattle.bsc_trust.specs.declared.connected.Connected.{Connected}
use Rattle.bsc_trust.specs.declared.distrust.Distrust.{Distrust}
use Rattle.bsc_trust.specs.declared.terminal_peers.TerminalPeers.{TerminalPeers}
use Rattle.bsc_trust.specs.declared.trust.Trust.{Trust}
use Rattle.bsc_trust.specs.Answers.{is_noise}
use Rattle.bsc_trust.specs.Connections.{nobody, newcomer, connected_at, owned_by}
use Rattle.bsc_trust.specs.Connections.{ignored_on}
use Rattle.bsc_trust.specs.Trust.{new_trust, admits, reason, reason_for, reason_by_owner}
use Rattle.bsc_trust.specs.Trust.{reason_beside, reason_where_called, given_to, with_connected}
use Rattle.bsc_trust.specs.Histories.{Event, Sends, Withholds, TimesOut, Arrives, Joins, Closes}
use Rattle.bsc_trust.specs.Histories.{after, after_all}
use Rattle.bsc_trust.specs.Histories.{AnswersFor, ends, TwoAnswers}
use Rattle.bsc_trust.proofs.Steps.{given_by, chosen_second}
use Rattle.bsc_trust.proofs.Steps.{heard_noise, part_after_answer, after_admitted, after_refused}
use Rattle.bsc_trust.proofs.Steps.{part_of_given, part_after_arrival}
use Rattle.bsc_trust.proofs.Owners.{owner_at, owner_after_set, owner_of_set, owner_within_set}
use Rattle.bsc_trust.proofs.Owners.{owner_beside_set, owns_nothing, owners_after_barring}

-- ---- what is admitted

none_of_either : {A : Type 0} (noise : Bool) (r : Option A) → noise ≡ false
    → (noise || is_none r) ≡ true → r ≡ None
none_of_either true r answer h = absurd (cc)
none_of_either false None answer h = refl
none_of_either false (Some x) answer h = absurd (cc)

-- There is no reason against an answer that is admitted.
pub no_reason : (t : Trust) (called : Option ℕ) (place : ℕ) (heard : Heard)
    → is_noise heard ≡ false → admits t called place heard ≡ true → reason t called place ≡ None
no_reason t called place heard answer admitted =
    none_of_either (is_noise heard) (reason t called place) answer admitted

due_by : (awaiting : Option ℕ) (barred : Bool) (early bar : Distrust) (r : Option Distrust)
    → cond (is_none awaiting) (Some early) (cond barred (Some bar) r) ≡ None
    → (is_none awaiting ≡ false) × (barred ≡ false) × (r ≡ None)
due_by None barred early bar r h = absurd (cc)
due_by (Some since) true early bar r h = absurd (cc)
due_by (Some since) false early bar r h = (refl, refl, h)

-- An answer that is admitted is due, comes on a connection that is not barred, and from the
-- terminal that is called.
pub due_where_admitted : (t : Trust) (called : Option ℕ) (place : ℕ)
    → reason t called place ≡ None
    → (is_none t.awaiting ≡ false) × ((connected_at t.connections place).barred ≡ false)
    × (reason_where_called called t place ≡ None)
due_where_admitted t called place none =
    due_by t.awaiting (connected_at t.connections place).barred _ _
    (reason_where_called called t place) none

beside : (first : Option ℕ) (t : Trust) (terminal place : ℕ)
    → reason_beside first t terminal place (connected_at t.connections place).peer ≡ None
    → first ≡ None
beside None t terminal place h = refl
beside (Some first) t terminal place h = absurd (cc)

-- The connection at a place is owned by this terminal, or by nobody, and this terminal owns none.
abbrev pub IsOrMayBeOf : List Connected → ℕ → ℕ → Type 0
IsOrMayBeOf cs place terminal = (owner_at cs place ≡ Some terminal)
    ⊎ ((owner_at cs place ≡ None) × (owned_by cs terminal ≡ None))

same_owner : (b : Bool) (owner terminal : ℕ) (r : Distrust) → (owner == terminal) ≡ b
    → cond b None (Some r) ≡ None → Some owner ≡ Some terminal
same_owner true owner terminal r e h = ap Some (eqb-true owner terminal e)
same_owner false owner terminal r e h = absurd (cc)

own_by : (owner : Option ℕ) (t : Trust) (terminal place : ℕ)
    → reason_by_owner owner t terminal place ≡ None
    → (owner ≡ Some terminal) ⊎ ((owner ≡ None) × (owned_by t.connections terminal ≡ None))
own_by None t terminal place h =
    inr (refl, beside (owned_by t.connections terminal) t terminal place h)
own_by (Some owner) t terminal place h =
    inl (same_owner (owner == terminal) owner terminal _ refl h)

pub own_where_admitted : (t : Trust) (terminal place : ℕ) (heard : Heard) → t.shared ≡ false
    → is_noise heard ≡ false → admits t (Some terminal) place heard ≡ true
    → IsOrMayBeOf t.connections place terminal
own_where_admitted t terminal place heard several answer admitted =
    let none = due_where_admitted t (Some terminal) place
    (no_reason t (Some terminal) place heard answer admitted) in
    own_by (owner_at t.connections place) t terminal place
    (sym (chosen_second t.shared None (reason_for t terminal place) several) ∙ none.2)

-- ---- what something that arrives changes of the connections

connections_after_answer : (t : Trust) (called : Option ℕ) (place : ℕ) (heard : Heard) (now : ℕ)
    → is_noise heard ≡ false → admits t called place heard ≡ true
    → (after t (Arrives called place heard now)).connections
    ≡ (given_to t called place).connections
connections_after_answer t called place heard now answer admitted =
    ap (λ (v : Trust). v.connections) (after_admitted t called place heard now admitted)
    ∙ part_after_answer (λ (v : Trust). v.connections) t called place heard now answer refl

connections_after_noise : (t : Trust) (called : Option ℕ) (place : ℕ) (heard : Heard) (now : ℕ)
    → is_noise heard ≡ true → admits t called place heard ≡ true
    → (after t (Arrives called place heard now)).connections ≡ t.connections
connections_after_noise t called place heard now noise admitted =
    ap (λ (v : Trust). v.connections) (after_admitted t called place heard now admitted
    ∙ heard_noise t called place heard now noise)

connections_after_ignored : (t : Trust) (called : Option ℕ) (place : ℕ) (heard : Heard) (now : ℕ)
    → admits t called place heard ≡ false
    → (after t (Arrives called place heard now)).connections ≡ slice_set t.connections place
    (ignored_on t.shared (connected_at t.connections place))
connections_after_ignored t called place heard now refused =
    ap (λ (v : Trust). v.connections) (after_refused t called place heard now refused)

-- Something that arrives either changes no owner or is an answer, whose connection is given to the
-- terminal that is called.
data ChangesOwners (t : Trust) (called : Option ℕ) (place : ℕ) (heard : Heard)
    (new : List Connected) : Type 0 where
  changes_none : ((p : ℕ) → owner_at new p ≡ owner_at t.connections p)
      → ChangesOwners t called place heard new
  gives : new ≡ (given_to t called place).connections → is_noise heard ≡ false
      → admits t called place heard ≡ true → ChangesOwners t called place heard new

changes_by : (admitted noise : Bool) (t : Trust) (called : Option ℕ) (place : ℕ) (heard : Heard)
    (now : ℕ) → admits t called place heard ≡ admitted → is_noise heard ≡ noise
    → ChangesOwners t called place heard (after t (Arrives called place heard now)).connections
changes_by false noise t called place heard now a n =
    changes_none (λ p. ap (λ (cs : List Connected). owner_at cs p)
    (connections_after_ignored t called place heard now a)
    ∙ owners_after_barring t.connections place p t.shared)
changes_by true true t called place heard now a n =
    changes_none (λ p. ap (λ (cs : List Connected). owner_at cs p)
    (connections_after_noise t called place heard now n a))
changes_by true false t called place heard now a n =
    gives (connections_after_answer t called place heard now n a) n a

changes : (t : Trust) (called : Option ℕ) (place : ℕ) (heard : Heard) (now : ℕ)
    → ChangesOwners t called place heard (after t (Arrives called place heard now)).connections
changes t called place heard now =
    changes_by (admits t called place heard) (is_noise heard) t called place heard now refl refl

-- ---- who is an owner afterwards was one before, or has answered

owner_from_given_by : (shared : Bool) (t : Trust) (terminal place p owner : ℕ)
    → owner_at (cond shared t (with_connected t place (given_by t terminal place))).connections p
    ≡ Some owner
    → (owner_at t.connections p ≡ Some owner) ⊎ ((Some terminal ≡ Some owner) × (place ≡ p))
owner_from_given_by true t terminal place p owner h = inl h
owner_from_given_by false t terminal place p owner h =
    elim (owner_after_set t.connections place p (given_by t terminal place) owner h) [
      | inl old ↦ inl old
      | inr new ↦ inr (new.1, sym new.0)
    ]

owner_from_given : (t : Trust) (called : Option ℕ) (place p owner : ℕ)
    → owner_at (given_to t called place).connections p ≡ Some owner
    → (owner_at t.connections p ≡ Some owner) ⊎ ((called ≡ Some owner) × (place ≡ p))
owner_from_given t None place p owner h = inl h
owner_from_given t (Some terminal) place p owner h =
    owner_from_given_by t.shared t terminal place p owner h

owner_from_changes : (t : Trust) (called : Option ℕ) (place : ℕ) (heard : Heard) (now : ℕ)
    (new : List Connected) (p owner : ℕ) → ChangesOwners t called place heard new
    → owner_at new p ≡ Some owner
    → (owner_at t.connections p ≡ Some owner)
    ⊎ AnswersFor t (Arrives called place heard now) owner p
owner_from_changes t called place heard now new p owner (changes_none same) h =
    inl (sym (same p) ∙ h)
owner_from_changes t called place heard now new p owner (gives same answer admitted) h =
    elim (owner_from_given t called place p owner
    (ap (λ (cs : List Connected). owner_at cs p) (sym same) ∙ h)) [
      | inl old ↦ inl old
      | inr new ↦ inr (new.0, new.1, answer, admitted)
    ]

not_of_nobody : {P : Type 0} (owner : ℕ) → None ≡ Some owner → P
not_of_nobody owner h = absurd (cc)

pub owner_from : (t : Trust) (event : Event) (p owner : ℕ)
    → owner_at (after t event).connections p ≡ Some owner
    → (owner_at t.connections p ≡ Some owner) ⊎ AnswersFor t event owner p
owner_from t (Sends now) p owner h = inl h
owner_from t (Withholds now) p owner h = inl h
owner_from t TimesOut p owner h = inl h
owner_from t (Arrives called place heard now) p owner h =
    owner_from_changes t called place heard now _ p owner (changes t called place heard now) h
owner_from t (Joins place peer) p owner h =
    elim (owner_after_set t.connections place p (newcomer peer) owner h) [
      | inl old ↦ inl old
      | inr new ↦ not_of_nobody owner new.1
    ]
owner_from t (Closes place) p owner h =
    elim (owner_after_set t.connections place p nobody owner h) [
      | inl old ↦ inl old
      | inr new ↦ not_of_nobody owner new.1
    ]

-- ---- an owner stays one until the connection ends

owner_stays_given_by : (t : Trust) (terminal place p owner : ℕ)
    → IsOrMayBeOf t.connections place terminal → owner_at t.connections p ≡ Some owner
    → owner_at (with_connected t place (given_by t terminal place)).connections p ≡ Some owner
owner_stays_given_by t terminal place p owner own h =
    elim (eqb_tells p place) [
      | inl same ↦
          let here : owner_at t.connections place ≡ Some owner =
          ap (owner_at t.connections) (sym same.1) ∙ h in
          let called : Some terminal ≡ Some owner =
          elim own [
            | inl old ↦ sym old ∙ here
            | inr free ↦ not_of_nobody owner (sym free.0 ∙ here)
          ] in
          subst (λ (q : ℕ).
          owner_at (slice_set t.connections place (given_by t terminal place)) q ≡ Some owner)
          (sym same.1)
          (owner_of_set t.connections place (given_by t terminal place) owner called here)
      | inr other ↦
          owner_beside_set t.connections place p (given_by t terminal place) other.1 ∙ h
    ]

owner_stays_given : (t : Trust) (called : Option ℕ) (place p owner : ℕ) (heard : Heard)
    → t.shared ≡ false → is_noise heard ≡ false → admits t called place heard ≡ true
    → owner_at t.connections p ≡ Some owner
    → owner_at (given_to t called place).connections p ≡ Some owner
owner_stays_given t None place p owner heard several answer admitted h = h
owner_stays_given t (Some terminal) place p owner heard several answer admitted h =
    ap (λ (v : Trust). owner_at v.connections p)
    (chosen_second t.shared t (with_connected t place (given_by t terminal place)) several)
    ∙ owner_stays_given_by t terminal place p owner
    (own_where_admitted t terminal place heard several answer admitted) h

owner_stays_changes : (t : Trust) (called : Option ℕ) (place : ℕ) (heard : Heard)
    (new : List Connected) (p owner : ℕ) → ChangesOwners t called place heard new
    → t.shared ≡ false → owner_at t.connections p ≡ Some owner → owner_at new p ≡ Some owner
owner_stays_changes t called place heard new p owner (changes_none same) several h = same p ∙ h
owner_stays_changes t called place heard new p owner (gives same answer admitted) several h =
    ap (λ (cs : List Connected). owner_at cs p) same
    ∙ owner_stays_given t called place p owner heard several answer admitted h

pub not_same : (p place : ℕ) → (place == p) ≡ false → p ≢ place
not_same p place h e =
    let same : (place == p) ≡ true = eq-eqb place p (sym e) in
    let wrong : true ≡ false = sym same ∙ h in
    absurd (cc)

pub owner_stays : (t : Trust) (event : Event) (p owner : ℕ) → t.shared ≡ false
    → ends p event ≡ false → owner_at t.connections p ≡ Some owner
    → owner_at (after t event).connections p ≡ Some owner
owner_stays t (Sends now) p owner several stays h = h
owner_stays t (Withholds now) p owner several stays h = h
owner_stays t TimesOut p owner several stays h = h
owner_stays t (Arrives called place heard now) p owner several stays h =
    owner_stays_changes t called place heard _ p owner (changes t called place heard now) several h
owner_stays t (Joins place peer) p owner several stays h =
    owner_beside_set t.connections place p (newcomer peer)
    (not_same p place stays) ∙ h
owner_stays t (Closes place) p owner several stays h =
    owner_beside_set t.connections place p nobody (not_same p place stays) ∙ h

-- ---- what stays, whatever happens

pub shared_stays : (t : Trust) (event : Event) → (after t event).shared ≡ t.shared
shared_stays t (Sends now) = refl
shared_stays t (Withholds now) = refl
shared_stays t TimesOut = refl
shared_stays t (Arrives called place heard now) =
    let given : (given_to t called place).shared ≡ t.shared =
    part_of_given (λ (v : Trust). v.shared) t called place (λ c. refl) in
    part_after_arrival (λ (v : Trust). v.shared) t called place heard now refl given given
shared_stays t (Joins place peer) = refl
shared_stays t (Closes place) = refl

count_stays : (t : Trust) (event : Event)
    → length (after t event).connections ≡ length t.connections
count_stays t (Sends now) = refl
count_stays t (Withholds now) = refl
count_stays t TimesOut = refl
count_stays t (Arrives called place heard now) =
    let given : length (given_to t called place).connections ≡ length t.connections =
    part_of_given (λ (v : Trust). length v.connections) t called place
    (λ c. length-set t.connections place c) in
    part_after_arrival (λ (v : Trust). length v.connections) t called place heard now
    (length-set t.connections place
    (ignored_on t.shared (connected_at t.connections place))) given given
count_stays t (Joins place peer) =
    length-set t.connections place (newcomer peer)
count_stays t (Closes place) = length-set t.connections place nobody

-- Whoever is the owner of two connections is that of one.
abbrev pub AreOwnedOnce : List Connected → Type 0
AreOwnedOnce cs = (p q owner : ℕ) → owner_at cs p ≡ Some owner → owner_at cs q ≡ Some owner → p ≡ q

-- Several connections, 64 of them, of which no two have one owner.
pub record IsSound (t : Trust) : Type 0 where
  pub several : t.shared ≡ false
  pub count : length t.connections ≡ MAX_CONNECTIONS
  pub once : AreOwnedOnce t.connections

-- A terminal that answers on a connection owns it, or owns none.
own_where_answers : (t : Trust) (event : Event) (terminal place : ℕ) → t.shared ≡ false
    → AnswersFor t event terminal place → IsOrMayBeOf t.connections place terminal
own_where_answers t (Sends now) terminal place several h = absurd h
own_where_answers t (Withholds now) terminal place several h = absurd h
own_where_answers t TimesOut terminal place several h = absurd h
own_where_answers t (Arrives called from heard now) terminal place several h =
    let admitted : admits t (Some terminal) place heard ≡ true =
    subst (λ (o : Option ℕ). admits t o place heard ≡ true) h.0
    (subst (λ (p : ℕ). admits t called p heard ≡ true) h.1 h.3) in
    own_where_admitted t terminal place heard several h.2 admitted
own_where_answers t (Joins from peer) terminal place several h = absurd h
own_where_answers t (Closes from) terminal place several h = absurd h

-- The place of an answer is that of its event.
same_place : (t : Trust) (event : Event) (p q terminal later : ℕ) → AnswersFor t event terminal p
    → AnswersFor t event later q → p ≡ q
same_place t (Sends now) p q terminal later h k = absurd h
same_place t (Withholds now) p q terminal later h k = absurd h
same_place t TimesOut p q terminal later h k = absurd h
same_place t (Arrives called from heard now) p q terminal later h k = sym h.1 ∙ k.1
same_place t (Joins from peer) p q terminal later h k = absurd h
same_place t (Closes from) p q terminal later h k = absurd h

-- Who owns a connection answers on no other.
owned_before_answer : (t : Trust) (event : Event) (p q owner : ℕ) → IsSound t
    → owner_at t.connections p ≡ Some owner → AnswersFor t event owner q → p ≡ q
owned_before_answer t event p q owner sound own answers =
    elim (own_where_answers t event owner q sound.several answers) [
      | inl old ↦ sound.once p q owner own old
      | inr free ↦ absurd (owns_nothing t.connections owner p free.1 own)
    ]

once_stays : (t : Trust) (event : Event) → IsSound t → AreOwnedOnce (after t event).connections
once_stays t event sound p q owner left right =
    elim (owner_from t event p owner left) [
      | inl old ↦
          elim (owner_from t event q owner right) [
            | inl older ↦ sound.once p q owner old older
            | inr answers ↦ owned_before_answer t event p q owner sound old answers
          ]
      | inr answers ↦
          elim (owner_from t event q owner right) [
            | inl old ↦ sym (owned_before_answer t event q p owner sound old answers)
            | inr answers_too ↦ same_place t event p q owner owner answers answers_too
          ]
    ]

pub sound_stays : (t : Trust) (event : Event) → IsSound t → IsSound (after t event)
sound_stays t event sound = record {
  several = shared_stays t event ∙ sound.several;
  count = count_stays t event ∙ sound.count;
  once = once_stays t event sound;
}

pub sound_after_all : (t : Trust) (events : List Event) → IsSound t → IsSound (after_all t events)
sound_after_all t [] sound = sound
sound_after_all t (event ∷ events) sound =
    sound_after_all (after t event) events (sound_stays t event sound)

nobody_of_new : (count p : ℕ) → owner_at (replicate count nobody) p ≡ None
nobody_of_new zero p = refl
nobody_of_new (suc count) zero = refl
nobody_of_new (suc count) (suc p) = nobody_of_new count p

pub new_is_sound : (time_out : ℕ) (peers : TerminalPeers) → IsSound (new_trust false time_out peers)
new_is_sound time_out peers = record {
  several = refl;
  count = length-replicate MAX_CONNECTIONS nobody;
  once = λ p q owner left right.
      not_of_nobody owner (sym (nobody_of_new MAX_CONNECTIONS p) ∙ left);
}

owner_stays_all : (t : Trust) (events : List Event) (p owner : ℕ) → t.shared ≡ false
    → list_any (ends p) events ≡ false → owner_at t.connections p ≡ Some owner
    → owner_at (after_all t events).connections p ≡ Some owner
owner_stays_all t [] p owner several stays h = h
owner_stays_all t (event ∷ events) p owner several stays h =
    let each = or_parts (ends p event) (list_any (ends p) events) stays in
    owner_stays_all (after t event) events p owner (shared_stays t event ∙ several) each.1
    (owner_stays t event p owner several each.0 h)

-- ---- an answer makes its terminal the owner

owner_after_answer : (t : Trust) (event : Event) (terminal place : ℕ) → IsSound t
    → place < MAX_CONNECTIONS → AnswersFor t event terminal place
    → owner_at (after t event).connections place ≡ Some terminal
owner_after_answer t (Sends now) terminal place sound within h = absurd h
owner_after_answer t (Withholds now) terminal place sound within h = absurd h
owner_after_answer t TimesOut terminal place sound within h = absurd h
owner_after_answer t (Arrives called from heard now) terminal place sound within h =
    let given : (given_to t called from).connections
    ≡ slice_set t.connections place (given_by t terminal place) =
    ap (λ (o : Option ℕ). (given_to t o from).connections) h.0
    ∙ ap (λ (p : ℕ). (given_to t (Some terminal) p).connections) h.1
    ∙ ap (λ (v : Trust). v.connections) (chosen_second t.shared t
    (with_connected t place (given_by t terminal place)) sound.several) in
    ap (λ (cs : List Connected). owner_at cs place)
    (connections_after_answer t called from heard now h.2 h.3 ∙ given)
    ∙ owner_within_set t.connections place (given_by t terminal place)
    (omega (arith, within, sound.count))
owner_after_answer t (Joins from peer) terminal place sound within h = absurd h
owner_after_answer t (Closes from) terminal place sound within h = absurd h

-- ---- two answers

-- What holds when the second of two answers comes: the first connection is still that of its
-- terminal.
record AtSecond (t : Trust) (second : Event) (terminal place later_terminal later_place : ℕ)
    : Type 0 where
  sound : IsSound t
  own : owner_at t.connections place ≡ Some terminal
  answers : AnswersFor t second later_terminal later_place

at_second : (time_out : ℕ) (peers : TerminalPeers) (before : List Event) (first : Event)
    (between : List Event) (second : Event) (terminal place later_terminal later_place : ℕ)
    → TwoAnswers time_out peers before first between second terminal place later_terminal
    later_place
    → AtSecond
    (after_all (after (after_all (new_trust false time_out peers) before) first) between)
    second terminal place later_terminal later_place
at_second time_out peers before first between second terminal place later_terminal later_place two =
    let t : Trust = after_all (new_trust false time_out peers) before in
    let sound : IsSound t =
    sound_after_all (new_trust false time_out peers) before (new_is_sound time_out peers) in
    let sound_then : IsSound (after t first) = sound_stays t first sound in
    record {
      sound = sound_after_all (after t first) between sound_then;
      own = owner_stays_all (after t first) between place terminal sound_then.several two.stays
          (owner_after_answer t first terminal place sound two.is_place two.answers);
      answers = two.answers_later;
    }

pub one_place : (time_out : ℕ) (peers : TerminalPeers) (before : List Event) (first : Event)
    (between : List Event) (second : Event) (terminal place later_place : ℕ)
    → TwoAnswers time_out peers before first between second terminal place terminal later_place
    → place ≡ later_place
one_place time_out peers before first between second terminal place later_place two =
    let then = at_second time_out peers before first between second terminal place terminal
    later_place two in
    owned_before_answer _ second place later_place terminal then.sound then.own then.answers

same_terminal : (terminal later : ℕ) → Some terminal ≡ Some later → terminal ≡ later
same_terminal terminal later h = cc

pub one_terminal : (time_out : ℕ) (peers : TerminalPeers) (before : List Event) (first : Event)
    (between : List Event) (second : Event) (terminal place later_terminal : ℕ)
    → TwoAnswers time_out peers before first between second terminal place later_terminal place
    → terminal ≡ later_terminal
one_terminal time_out peers before first between second terminal place later_terminal two =
    let then = at_second time_out peers before first between second terminal place later_terminal
    place two in
    elim (own_where_answers _ second later_terminal place then.sound.several then.answers) [
      | inl own ↦ same_terminal terminal later_terminal (sym then.own ∙ own)
      | inr free ↦ not_of_nobody terminal (sym free.0 ∙ then.own)
    ]
