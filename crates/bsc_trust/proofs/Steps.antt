-- What one event does to each part of what is known.
use Rattle.std.proofs.Common.{◌≡◌, ℕ, Bool, true, false, cond, refl, ◌∙◌, ap}
use Rattle.std.proofs.Common.{Option, None, Some}
use Rattle.bsc_frame.specs.declared.message.Heard.{Heard}
use Rattle.bsc_trust.specs.declared.connected.Connected.{Connected}
use Rattle.bsc_trust.specs.declared.trust.Trust.{Trust}
use Rattle.bsc_trust.specs.Answers.{is_noise, is_timed}
use Rattle.bsc_trust.specs.Trust.{admits, after_heard, after_ignored, after_answer}
use Rattle.bsc_trust.specs.Trust.{after_time, time_taken, given_to, with_connected}
use Rattle.bsc_trust.specs.Connections.{connected_at}
use Rattle.bsc_trust.specs.Histories.{Arrives, after}

-- What is known of the connection at a place once it is given to a terminal.
abbrev pub given_by : Trust → ℕ → ℕ → Connected
given_by t terminal place =
    record (connected_at t.connections place) { owner = Some terminal }

-- A part of the one of two values that is chosen.
pub part_of_chosen : {A B : Type 0} (f : A → B) (b : Bool) (x y : A) (z : B) → f x ≡ z → f y ≡ z
    → f (cond b x y) ≡ z
part_of_chosen f true x y z first second = first
part_of_chosen f false x y z first second = second

pub chosen_first : {A : Type 0} (b : Bool) (x y : A) → b ≡ true → cond b x y ≡ x
chosen_first true x y e = refl
chosen_first false x y e = absurd (cc)

pub chosen_second : {A : Type 0} (b : Bool) (x y : A) → b ≡ false → cond b x y ≡ y
chosen_second true x y e = absurd (cc)
chosen_second false x y e = refl

-- Hearing noise changes nothing.
pub heard_noise : (t : Trust) (called : Option ℕ) (place : ℕ) (heard : Heard) (now : ℕ)
    → is_noise heard ≡ true → after_heard t called place heard now ≡ t
heard_noise t called place heard now noise = chosen_first (is_noise heard) t _ noise

-- A part of what is known after an answer was heard, if its time does not matter for this part.
pub part_after_answer : {B : Type 0} (f : Trust → B) (t : Trust) (called : Option ℕ) (place : ℕ)
    (heard : Heard) (now : ℕ) → is_noise heard ≡ false
    → f (after_time (after_answer t called place now) (time_taken t now))
    ≡ f (after_answer t called place now)
    → f (after_heard t called place heard now) ≡ f (after_answer t called place now)
part_after_answer f t called place heard now answer same =
    ap f (chosen_second (is_noise heard) t _ answer)
    ∙ part_of_chosen f (is_timed heard (time_taken t now) t.time_out)
    (after_time (after_answer t called place now) (time_taken t now))
    (after_answer t called place now)
    (f (after_answer t called place now)) same refl

-- What is known after something arrived that was admitted, and after something that was not.
pub after_admitted : (t : Trust) (called : Option ℕ) (place : ℕ) (heard : Heard) (now : ℕ)
    → admits t called place heard ≡ true
    → after t (Arrives called place heard now) ≡ after_heard t called place heard now
after_admitted t called place heard now admitted =
    chosen_first (admits t called place heard) _ (after_ignored t called place) admitted

pub after_refused : (t : Trust) (called : Option ℕ) (place : ℕ) (heard : Heard) (now : ℕ)
    → admits t called place heard ≡ false
    → after t (Arrives called place heard now) ≡ after_ignored t called place
after_refused t called place heard now refused =
    chosen_second (admits t called place heard) (after_heard t called place heard now) _ refused

-- Giving a connection to a terminal changes no part that does not depend on the connections.
pub part_of_given : {B : Type 0} (f : Trust → B) (t : Trust) (called : Option ℕ) (place : ℕ)
    → ((c : Connected) → f (with_connected t place c) ≡ f t) → f (given_to t called place) ≡ f t
part_of_given f t None place same = refl
part_of_given f t (Some terminal) place same =
    part_of_chosen f t.shared t _ (f t) refl (same (given_by t terminal place))

-- A part of what is known after something arrived that depends on nothing that this changes.
pub part_after_arrival : {B : Type 0} (f : Trust → B) (t : Trust) (called : Option ℕ) (place : ℕ)
    (heard : Heard) (now : ℕ) → f (after_ignored t called place) ≡ f t
    → f (after_answer t called place now) ≡ f t
    → f (after_time (after_answer t called place now) (time_taken t now)) ≡ f t
    → f (after t (Arrives called place heard now)) ≡ f t
part_after_arrival f t called place heard now ignored answered timed =
    part_of_chosen f (admits t called place heard) _ (after_ignored t called place) (f t)
    (part_of_chosen f (is_noise heard) t _ (f t) refl
    (part_of_chosen f (is_timed heard (time_taken t now) t.time_out) _ _ (f t) timed answered))
    ignored
