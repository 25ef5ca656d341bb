-- At most one answer for each sending.
use Rattle.std.proofs.Common.{◌≡◌, ℕ, ◌+◌, ◌≤◌, Bool, true, false, cond, ◌&&◌, List, [], ◌∷◌}
use Rattle.std.proofs.Common.{refl, ◌∙◌, ap, arith, Option, None, Some}
use Rattle.std.specs.Prelude.{is_none, not}
use Rattle.bsc_frame.specs.declared.message.Heard.{Heard}
use Rattle.bsc_trust.specs.declared.terminal_peers.TerminalPeers.{TerminalPeers}
use Rattle.bsc_trust.specs.declared.trust.Trust.{Trust}
use Rattle.bsc_trust.specs.Answers.{is_noise}
use Rattle.bsc_trust.specs.Trust.{new_trust, admits}
use Rattle.bsc_trust.specs.Histories.{Event, Sends, Withholds, TimesOut, Arrives, Joins, Closes}
use Rattle.bsc_trust.specs.Histories.{after, is_answer}
use Rattle.bsc_trust.specs.Histories.{answers_among, is_sending, sendings_among}
use Rattle.bsc_trust.proofs.Steps.{heard_noise, part_after_answer, after_admitted, after_refused}
use Rattle.bsc_trust.proofs.Owning.{no_reason, due_where_admitted}

-- How many answers are due: one if something was sent since the last one.
abbrev pub due : Option ℕ → ℕ
due awaiting = cond (is_none awaiting) 0 1

one_if : (b : Bool) → b ≡ false → cond {A = ℕ} b 0 1 ≡ 1
one_if true e = absurd (cc)
one_if false e = refl

-- Something that arrives takes what it counts from what is due.
arrival_takes_by : (admitted noise : Bool) (t : Trust) (called : Option ℕ) (place : ℕ)
    (heard : Heard) (now : ℕ) → admits t called place heard ≡ admitted → is_noise heard ≡ noise
    → cond (not noise && admitted) 1 0
    + due (after t (Arrives called place heard now)).awaiting ≤ due t.awaiting
arrival_takes_by false true t called place heard now a n =
    let same : due (after t (Arrives called place heard now)).awaiting ≡ due t.awaiting =
    ap (λ (v : Trust). due v.awaiting) (after_refused t called place heard now a) in
    omega (arith, same)
arrival_takes_by false false t called place heard now a n =
    let same : due (after t (Arrives called place heard now)).awaiting ≡ due t.awaiting =
    ap (λ (v : Trust). due v.awaiting) (after_refused t called place heard now a) in
    omega (arith, same)
arrival_takes_by true true t called place heard now a n =
    let same : due (after t (Arrives called place heard now)).awaiting ≡ due t.awaiting =
    ap (λ (v : Trust). due v.awaiting) (after_admitted t called place heard now a
    ∙ heard_noise t called place heard now n) in
    omega (arith, same)
arrival_takes_by true false t called place heard now a n =
    let taken : due (after t (Arrives called place heard now)).awaiting ≡ 0 =
    ap (λ (v : Trust). due v.awaiting) (after_admitted t called place heard now a)
    ∙ part_after_answer (λ (v : Trust). due v.awaiting) t called place heard now n refl in
    let was_due : due t.awaiting ≡ 1 =
    one_if (is_none t.awaiting)
    (due_where_admitted t called place (no_reason t called place heard n a)).0 in
    omega (arith, taken, was_due)

step_takes : (t : Trust) (event : Event)
    → cond (is_answer t event) 1 0 + due (after t event).awaiting
    ≤ due t.awaiting + cond (is_sending event) 1 0
step_takes t (Sends now) = omega arith
step_takes t (Withholds now) = omega arith
step_takes t TimesOut = omega arith
step_takes t (Arrives called place heard now) =
    let takes = arrival_takes_by (admits t called place heard) (is_noise heard) t called place heard
    now refl refl in
    omega (arith, takes)
step_takes t (Joins place peer) = omega arith
step_takes t (Closes place) = omega arith

-- No more answers than are due or are asked for.
pub answers_at_most : (t : Trust) (events : List Event)
    → answers_among t events ≤ due t.awaiting + sendings_among events
answers_at_most t [] = omega arith
answers_at_most t (event ∷ events) =
    omega (arith, step_takes t event, answers_at_most (after t event) events)

due_at_most_one : (awaiting : Option ℕ) → due awaiting ≤ 1
due_at_most_one None = omega arith
due_at_most_one (Some since) = omega arith

pub at_most_one : (t : Trust) (events : List Event) → sendings_among events ≡ 0
    → answers_among t events ≤ 1
at_most_one t events none =
    omega (arith, none, answers_at_most t events, due_at_most_one t.awaiting)

pub as_many_as_sendings : (shared : Bool) (time_out : ℕ) (peers : TerminalPeers)
    (events : List Event)
    → answers_among (new_trust shared time_out peers) events ≤ sendings_among events
as_many_as_sendings shared time_out peers events =
    omega (arith, answers_at_most (new_trust shared time_out peers) events)
