-- What trust means: the first reason stays, and there is none as long as nothing speaks against
-- trust.
use Rattle.std.proofs.Common.{◌≡◌, ◌↔◌, ℕ, ◌≤◌, Bool, true, false, cond, List, [], ◌∷◌}
use Rattle.std.proofs.Common.{refl, sym, ◌∙◌, ap, arith, Option, None, Some}
use Rattle.std.proofs.lemmas.Bool.{ltb-false, le-ltb}
use Rattle.std.specs.Prelude.{nat_lt}
use Rattle.bsc_frame.specs.declared.message.Heard.{Heard}
use Rattle.bsc_trust.specs.declared.distrust.Distrust.{Distrust}
use Rattle.bsc_trust.specs.declared.distrust.Distrust.TheVariants.{LateAnswer, LateReply}
use Rattle.bsc_trust.specs.declared.trust.Trust.{Trust}
use Rattle.bsc_trust.specs.Answers.{is_noise, is_timed}
use Rattle.bsc_trust.specs.Trust.{admits, given_to, first_reason, after_time, after_answer}
use Rattle.bsc_trust.specs.Trust.{after_heard, after_ignored, time_taken, time_since, reason_told}
use Rattle.bsc_trust.specs.Histories.{Event, Sends, Withholds, TimesOut, Arrives, Joins, Closes}
use Rattle.bsc_trust.specs.Histories.{after, after_all}
use Rattle.bsc_trust.specs.Histories.{IsFine, AreFine}
use Rattle.bsc_trust.proofs.Steps.{part_of_chosen, chosen_first, chosen_second, part_of_given}
use Rattle.bsc_trust.proofs.Steps.{after_admitted, after_refused, heard_noise}

-- Whoever owns which connection, the reason is the same.
same_reason : (t : Trust) (called : Option ℕ) (place : ℕ)
    → (given_to t called place).distrust ≡ t.distrust
same_reason t called place =
    part_of_given (λ (v : Trust). v.distrust) t called place (λ c. refl)

-- ---- the first reason stays

first_of : (reasons : Option Distrust) (first later : Distrust) → reasons ≡ Some first
    → first_reason reasons later ≡ Some first
first_of None first later h = absurd (cc)
first_of (Some old) first later h = h

stays : (t : Trust) (event : Event) (first : Distrust) → t.distrust ≡ Some first
    → (after t event).distrust ≡ Some first
stays t (Sends now) first h =
    part_of_chosen (λ (r : Option Distrust). r) (nat_lt t.time_out (time_since t.heard_at now)) _ _
    (Some first) (first_of t.distrust first LateReply h) h
stays t (Arrives called place heard now) first h =
    let given : (given_to t called place).distrust ≡ Some first =
    same_reason t called place ∙ h in
    let timed : (after_time (after_answer t called place now) (time_taken t now)).distrust
    ≡ Some first =
    part_of_chosen (λ (r : Option Distrust). r)
    (nat_lt (after_answer t called place now).time_out (time_taken t now)) _ _ (Some first)
    (first_of _ first LateAnswer given) given in
    part_of_chosen (λ (v : Trust). v.distrust) (admits t called place heard)
    (after_heard t called place heard now) (after_ignored t called place) (Some first)
    (part_of_chosen (λ (v : Trust). v.distrust) (is_noise heard) t _ (Some first) h
    (part_of_chosen (λ (v : Trust). v.distrust)
    (is_timed heard (time_taken t now) t.time_out)
    (after_time (after_answer t called place now) (time_taken t now))
    (after_answer t called place now) (Some first) timed given))
    (first_of t.distrust first (reason_told t called place) h)
stays t (Withholds now) first h = h
stays t TimesOut first h = h
stays t (Joins place peer) first h = h
stays t (Closes place) first h = h

pub stays_for_ever : (t : Trust) (events : List Event) (first : Distrust) → t.distrust ≡ Some first
    → (after_all t events).distrust ≡ Some first
stays_for_ever t [] first h = h
stays_for_ever t (event ∷ events) first h =
    stays_for_ever (after t event) events first (stays t event first h)

-- ---- there is no reason exactly as long as everything is fine

always_a_reason : (r : Option Distrust) (later : Distrust) → first_reason r later ≡ None → ⊥
always_a_reason None later h = absurd (cc)
always_a_reason (Some first) later h = absurd (cc)

not_late_by : (is_late : Bool) (r : Option Distrust) (late : Distrust)
    → cond is_late (first_reason r late) r ≡ None → is_late ≡ false
not_late_by true r late h = absurd (always_a_reason r late h)
not_late_by false r late h = refl

-- The time-out stays, whoever owns which connection.
same_time_out : (t : Trust) (called : Option ℕ) (place : ℕ)
    → (given_to t called place).time_out ≡ t.time_out
same_time_out t called place =
    part_of_given (λ (v : Trust). v.time_out) t called place (λ c. refl)

fine_by : (admitted : Bool) (t : Trust) (called : Option ℕ) (place : ℕ) (heard : Heard) (now : ℕ)
    → admits t called place heard ≡ admitted
    → (after t (Arrives called place heard now)).distrust ≡ None
    → IsFine t (Arrives called place heard now)
fine_by false t called place heard now a h =
    absurd (always_a_reason t.distrust (reason_told t called place)
    (sym (ap (λ (v : Trust). v.distrust) (after_refused t called place heard now a)) ∙ h))
fine_by true t called place heard now a h = (
  a,
  λ answer timed.
      let then : (after_time (after_answer t called place now) (time_taken t now)).distrust ≡ None =
      sym (ap (λ (v : Trust). v.distrust) (after_admitted t called place heard now a
      ∙ chosen_second (is_noise heard) t _ answer
      ∙ chosen_first (is_timed heard (time_taken t now) t.time_out) _
      (after_answer t called place now) timed)) ∙ h in
      let in_time : nat_lt (given_to t called place).time_out (time_taken t now) ≡ false =
      not_late_by _ (given_to t called place).distrust LateAnswer then in
      let limit = ltb-false (given_to t called place).time_out (time_taken t now) in_time in
      omega (arith, limit, same_time_out t called place),
)

none_by : (noise timed : Bool) (t : Trust) (called : Option ℕ) (place : ℕ) (heard : Heard)
    (now : ℕ) → is_noise heard ≡ noise → is_timed heard (time_taken t now) t.time_out ≡ timed
    → t.distrust ≡ None → IsFine t (Arrives called place heard now)
    → (after_heard t called place heard now).distrust ≡ None
none_by true timed t called place heard now n w h fine =
    ap (λ (v : Trust). v.distrust) (heard_noise t called place heard now n) ∙ h
none_by false true t called place heard now n w h fine =
    let limit : time_taken t now ≤ (given_to t called place).time_out =
    omega (arith, fine.1 n w, same_time_out t called place) in
    ap (λ (v : Trust). v.distrust) (chosen_second (is_noise heard) t _ n
    ∙ chosen_first (is_timed heard (time_taken t now) t.time_out) _
    (after_answer t called place now) w)
    ∙ chosen_second (nat_lt (given_to t called place).time_out (time_taken t now)) _ _
    (le-ltb _ _ limit)
    ∙ same_reason t called place ∙ h
none_by false false t called place heard now n w h fine =
    ap (λ (v : Trust). v.distrust) (chosen_second (is_noise heard) t _ n
    ∙ chosen_second (is_timed heard (time_taken t now) t.time_out)
    (after_time (after_answer t called place now) (time_taken t now)) _ w)
    ∙ same_reason t called place ∙ h

fine_step : (t : Trust) (event : Event) → t.distrust ≡ None → (after t event).distrust ≡ None
    → IsFine t event
fine_step t (Sends now) h later =
    ltb-false t.time_out (time_since t.heard_at now) (not_late_by _ t.distrust LateReply later)
fine_step t (Arrives called place heard now) h later =
    fine_by (admits t called place heard) t called place heard now refl later
fine_step t (Withholds now) h later = tt
fine_step t TimesOut h later = tt
fine_step t (Joins place peer) h later = tt
fine_step t (Closes place) h later = tt

none_step : (t : Trust) (event : Event) → t.distrust ≡ None → IsFine t event
    → (after t event).distrust ≡ None
none_step t (Sends now) h fine =
    chosen_second (nat_lt t.time_out (time_since t.heard_at now)) _ _
    (le-ltb t.time_out (time_since t.heard_at now) fine) ∙ h
none_step t (Arrives called place heard now) h fine =
    ap (λ (v : Trust). v.distrust) (after_admitted t called place heard now fine.0)
    ∙ none_by (is_noise heard) (is_timed heard (time_taken t now) t.time_out) t called place heard
    now refl refl h fine
none_step t (Withholds now) h fine = h
none_step t TimesOut h fine = h
none_step t (Joins place peer) h fine = h
none_step t (Closes place) h fine = h

-- Without a reason at the end there was none before.
none_before : (r : Option Distrust) (t : Trust) (events : List Event) → t.distrust ≡ r
    → (after_all t events).distrust ≡ None → t.distrust ≡ None
none_before None t events e h = e
none_before (Some first) t events e h =
    let wrong : Some first ≡ None = sym (stays_for_ever t events first e) ∙ h in
    absurd (cc)

fine_all : (t : Trust) (events : List Event) → t.distrust ≡ None
    → (after_all t events).distrust ≡ None → AreFine t events
fine_all t [] h later = tt
fine_all t (event ∷ events) h later =
    let next : (after t event).distrust ≡ None =
    none_before (after t event).distrust (after t event) events refl later in
    (fine_step t event h next, fine_all (after t event) events next later)

none_all : (t : Trust) (events : List Event) → t.distrust ≡ None → AreFine t events
    → (after_all t events).distrust ≡ None
none_all t [] h fine = h
none_all t (event ∷ events) h fine =
    none_all (after t event) events (none_step t event h fine.0) fine.1

pub none_exactly_if_fine : (t : Trust) (events : List Event) → t.distrust ≡ None
    → ((after_all t events).distrust ≡ None) ↔ AreFine t events
none_exactly_if_fine t events h = (fine_all t events h, none_all t events h)
