-- A connection on which something arrived out of turn is barred until it ends.
use Rattle.std.proofs.Common.{◌≡◌, ℕ, zero, suc, ◌<◌, Bool, true, false, ◌||◌, ◌&&◌, List, [], ◌∷◌}
use Rattle.std.proofs.Common.{length, refl, sym, ◌∙◌, ap, arith, Option, None, Some}
use Rattle.std.proofs.lemmas.Bool.{or_left, or_parts}
use Rattle.std.proofs.lemmas.List.{get_or-set_other, get_or-set_same}
use Rattle.std.specs.Prelude.{not, is_none, slice_set}
use Rattle.std.specs.List.{list_any}
use Rattle.bsc_carrier.specs.declared.limits.TheConstants.{MAX_CONNECTIONS}
use Rattle.bsc_trust.specs.declared.connected.Connected.{Connected}
use Rattle.bsc_trust.specs.declared.terminal_peers.TerminalPeers.{TerminalPeers}
use Rattle.bsc_trust.specs.declared.trust.Trust.{Trust}
use Rattle.bsc_trust.specs.Answers.{is_noise, is_timed}
use Rattle.bsc_trust.specs.Connections.{nobody, newcomer, connected_at, ignored_on}
use Rattle.bsc_trust.specs.Trust.{new_trust, admits, given_to, with_connected, after_heard}
use Rattle.bsc_trust.specs.Trust.{after_ignored, after_answer, after_time, time_taken}
use Rattle.bsc_trust.specs.Histories.{Event, Sends, Withholds, TimesOut, Arrives, Joins, Closes}
use Rattle.bsc_trust.specs.Histories.{after, after_all}
use Rattle.bsc_trust.specs.Histories.{ends}
use Rattle.bsc_trust.specs.Histories.{ArrivesOutOfTurn, AnswersAt, AnswersAfterwards}
use Rattle.bsc_trust.proofs.Steps.{given_by, part_of_chosen, after_refused}
use Rattle.bsc_trust.proofs.Owning.{no_reason, due_where_admitted, not_same, IsSound}
use Rattle.bsc_trust.proofs.Owning.{sound_after_all, new_is_sound}

-- Whether the connection at a place is barred.
abbrev pub barred_at : List Connected → ℕ → Bool
barred_at connections place = (connected_at connections place).barred

barred_stays_set : (cs : List Connected) (place p : ℕ) (c : Connected)
    → (p ≡ place → c.barred ≡ true) → barred_at cs p ≡ true
    → barred_at (slice_set cs place c) p ≡ true
barred_stays_set [] place p c new h = h
barred_stays_set (x ∷ xs) zero zero c new h = new refl
barred_stays_set (x ∷ xs) zero (suc p) c new h = h
barred_stays_set (x ∷ xs) (suc place) zero c new h = h
barred_stays_set (x ∷ xs) (suc place) (suc p) c new h =
    barred_stays_set xs place p c (λ e. new (ap suc e)) h

barred_beside_set : (cs : List Connected) (place p : ℕ) (c : Connected) → (p ≡ place → ⊥)
    → barred_at cs p ≡ true → barred_at (slice_set cs place c) p ≡ true
barred_beside_set cs place p c other h =
    ap (λ (x : Connected). x.barred) (get_or-set_other cs place p c nobody other) ∙ h

or_second : (one shared : Bool) (owner : Option ℕ) → shared ≡ false → owner ≡ None
    → (one || (not shared && is_none owner)) ≡ true
or_second true shared owner s o = refl
or_second false true owner s o = absurd (cc)
or_second false false None s o = refl
or_second false false (Some terminal) s o = absurd (cc)

-- ---- it stays barred

barred_stays_given : (t : Trust) (called : Option ℕ) (place p : ℕ)
    → barred_at t.connections p ≡ true
    → barred_at (given_to t called place).connections p ≡ true
barred_stays_given t None place p h = h
barred_stays_given t (Some terminal) place p h =
    part_of_chosen (λ (v : Trust). barred_at v.connections p) t.shared t
    (with_connected t place (given_by t terminal place)) true h
    (barred_stays_set t.connections place p (given_by t terminal place)
    (λ e. ap (barred_at t.connections) (sym e) ∙ h) h)

barred_stays : (t : Trust) (event : Event) (p : ℕ) → ends p event ≡ false
    → barred_at t.connections p ≡ true → barred_at (after t event).connections p ≡ true
barred_stays t (Sends now) p stays h = h
barred_stays t (Withholds now) p stays h = h
barred_stays t TimesOut p stays h = h
barred_stays t (Arrives called place heard now) p stays h =
    let given = barred_stays_given t called place p h in
    part_of_chosen (λ (v : Trust). barred_at v.connections p) (admits t called place heard)
    (after_heard t called place heard now) (after_ignored t called place) true
    (part_of_chosen (λ (v : Trust). barred_at v.connections p) (is_noise heard) t _ true h
    (part_of_chosen (λ (v : Trust). barred_at v.connections p)
    (is_timed heard (time_taken t now) t.time_out)
    (after_time (after_answer t called place now) (time_taken t now))
    (after_answer t called place now)
    true given given))
    (barred_stays_set t.connections place p
    (ignored_on t.shared (connected_at t.connections place))
    (λ e. or_left (barred_at t.connections place) _ (ap (barred_at t.connections) (sym e) ∙ h)) h)
barred_stays t (Joins place peer) p stays h =
    barred_beside_set t.connections place p
    (newcomer peer) (not_same p place stays) h
barred_stays t (Closes place) p stays h =
    barred_beside_set t.connections place p nobody (not_same p place stays) h

barred_stays_all : (t : Trust) (events : List Event) (p : ℕ) → list_any (ends p) events ≡ false
    → barred_at t.connections p ≡ true → barred_at (after_all t events).connections p ≡ true
barred_stays_all t [] p stays h = h
barred_stays_all t (event ∷ events) p stays h =
    let each = or_parts (ends p event) (list_any (ends p) events) stays in
    barred_stays_all (after t event) events p each.1 (barred_stays t event p each.0 h)

-- ---- it becomes barred, and then nothing is heard on it

barred_after : (t : Trust) (event : Event) (p : ℕ) → IsSound t → p < MAX_CONNECTIONS
    → ArrivesOutOfTurn t event p → barred_at (after t event).connections p ≡ true
barred_after t (Sends now) p sound within h = absurd h
barred_after t (Withholds now) p sound within h = absurd h
barred_after t TimesOut p sound within h = absurd h
barred_after t (Arrives called place heard now) p sound within h =
    let c : Connected = ignored_on t.shared (connected_at t.connections place) in
    let here : place < length t.connections = omega (arith, within, sound.count, h.0) in
    ap (λ (v : Trust). barred_at v.connections p) (after_refused t called place heard now h.1)
    ∙ ap (barred_at (slice_set t.connections place c)) (sym h.0)
    ∙ ap (λ (x : Connected). x.barred) (get_or-set_same t.connections place c nobody here)
    ∙ or_second (barred_at t.connections place) t.shared
    (connected_at t.connections place).owner sound.several h.2
barred_after t (Joins place peer) p sound within h = absurd h
barred_after t (Closes place) p sound within h = absurd h

no_answer_where_barred : (t : Trust) (event : Event) (p : ℕ) → barred_at t.connections p ≡ true
    → AnswersAt t event p → ⊥
no_answer_where_barred t (Sends now) p barred h = h
no_answer_where_barred t (Withholds now) p barred h = h
no_answer_where_barred t TimesOut p barred h = h
no_answer_where_barred t (Arrives called place heard now) p barred h =
    let free : barred_at t.connections place ≡ false =
    (due_where_admitted t called place (no_reason t called place heard h.1 h.2)).1 in
    let wrong : true ≡ false = sym barred ∙ ap (barred_at t.connections) (sym h.0) ∙ free in
    absurd (cc)
no_answer_where_barred t (Joins place peer) p barred h = h
no_answer_where_barred t (Closes place) p barred h = h

pub no_answer_afterwards : (time_out : ℕ) (peers : TerminalPeers) (before : List Event)
    (first : Event) (between : List Event) (second : Event) (place : ℕ)
    → AnswersAfterwards time_out peers before first between second place → ⊥
no_answer_afterwards time_out peers before first between second place h =
    let t : Trust = after_all (new_trust false time_out peers) before in
    let sound : IsSound t =
    sound_after_all (new_trust false time_out peers) before (new_is_sound time_out peers) in
    no_answer_where_barred (after_all (after t first) between) second place
    (barred_stays_all (after t first) between place h.stays
    (barred_after t first place sound h.is_place h.out_of_turn)) h.answers
