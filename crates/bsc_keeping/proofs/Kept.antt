-- What a station changes is kept before its answer is sent, whatever keeps it.
use Rattle.std.proofs.Common.{◌≡◌, ℕ, Bool, true, false, List, Option, Result, Ok}
use Rattle.std.proofs.Common.{Err, refl, sym, ◌∙◌, ap, subst, ◌⊎◌, inl, inr, is_ok}
use Rattle.std.specs.declared.io.Read as read
use Rattle.std.specs.declared.io.Write as write
use Rattle.bsc_bid.specs.declared.station.Station as station_of
use Rattle.bsc_connections.specs.declared.awaited.Pace.{Pace}
use Rattle.bsc_connections.specs.declared.awaited.Waiter as waiter_of
use Rattle.bsc_connections.specs.declared.framing.Framing as framing_of
use Rattle.bsc_connections.specs.Parts.{SessionParts, session_parts}
use Rattle.bsc_connections.specs.Connections.{ConnectionValue}
use Rattle.bsc_connections.specs.Attending.{FailsToWait, Session, Steps, StepsOrFails}
use Rattle.bsc_connections.specs.declared.awaited.LiveError.{LiveError}
use Rattle.bsc_connections.specs.Histories.{Happening, WasHeard, WasSilent, WasSent, WasIgnored}
use Rattle.bsc_connections.specs.Histories.{WasWithheld, HasJoined, WasRefused, HasClosed}
use Rattle.bsc_connections.specs.Histories.{WasStopped, all_sent, sent_if_in_time}
use Rattle.bsc_keeping.specs.LiveRuns.{Moves, State, Step, StepsOrWaits, state_of}
use Rattle.bsc_keeping.specs.Monitors.{KeepsAccepted, KeepsIfAccepted, KeepsIfStep, TellsAndKeeps}
use Rattle.bsc_keeping.specs.Monitors.{if_done}
use Rattle.bsc_keeping.specs.declared.keeping.Keeping.{Keeping}
use Rattle.bsc_keeping.proofs.Moving.{moves}
use Rattle.bsc_keeping.proofs.Tellings.{IsOther, IsStep, ShownOf, shown_of_step}

module _ {S M Q : Type 0} (keeps : Q → S → Result (Unit {0}) LiveError → Q → Type 0)
    (is_told : M → S → Happening → Result Bool LiveError → M → Type 0) where
  abbrev Tells : Keeping M Q → S → Happening → Result Bool LiveError → Keeping M Q → Type 0
  Tells = TellsAndKeeps keeps is_told

  -- What keeps is the same, or has kept once.
  abbrev pub Left : S → Keeping M Q → Keeping M Q → Type 0
  Left station before after =
      (after.kept.now ≡ before.kept.now)
      ⊎ ((result : Result (Unit {0}) LiveError)
      × keeps before.kept.now station result after.kept.now)

  -- It has kept all.
  abbrev pub Done : S → Keeping M Q → Keeping M Q → Type 0
  Done station before after =
      (done : Unit {0}) × keeps before.kept.now station (Ok done) after.kept.now

  abbrev pub IsSame : Keeping M Q → Keeping M Q → Type 0
  IsSame before after = after.kept.now ≡ before.kept.now

  left_idle : (station : S) (before : Keeping M Q) → Left station before before
  left_idle station before = inl refl

  same_idle : (before : Keeping M Q) → IsSame before before
  same_idle before = refl

  left_accepted : (station : S) (before : Keeping M Q) (goes_on : Bool) (happening : Happening)
      (result : Result Bool LiveError) (after : Keeping M Q)
      → KeepsAccepted keeps goes_on happening station result before.kept.now after.kept.now
      → Left station before after
  left_accepted station before goes_on (WasHeard place octets) result after keeping =
      inr (keeping.done, keeping.keeps_step)
  left_accepted station before goes_on WasSilent result after keeping =
      inr (keeping.done, keeping.keeps_step)
  left_accepted station before goes_on (WasIgnored place octets) result after keeping =
      inl keeping.keeps_step.1
  left_accepted station before goes_on (WasSent octets) result after keeping =
      inl keeping.keeps_step.1
  left_accepted station before goes_on (WasWithheld octets) result after keeping =
      inl keeping.keeps_step.1
  left_accepted station before goes_on (HasJoined place peer replaces) result after keeping =
      inl keeping.keeps_step.1
  left_accepted station before goes_on (WasRefused peer why) result after keeping =
      inl keeping.keeps_step.1
  left_accepted station before goes_on (HasClosed place peer why) result after keeping =
      inl keeping.keeps_step.1
  left_accepted station before goes_on WasStopped result after keeping = inl keeping.keeps_step.1

  left_if : (station : S) (before : Keeping M Q) (told : Result Bool LiveError)
      (happening : Happening) (result : Result Bool LiveError) (after : Keeping M Q)
      → KeepsIfAccepted keeps told happening station result before.kept.now after.kept.now
      → Left station before after
  left_if station before (Ok goes_on) happening result after keeping =
      left_accepted station before goes_on happening result after keeping
  left_if station before (Err error) happening result after keeping = inl keeping.1

  left_told : (station : S) (before : Keeping M Q) (happening : Happening)
      (result : Result Bool LiveError) (after : Keeping M Q)
      → Tells before station happening result after → Left station before after
  left_told station before happening result after tells =
      left_if station before tells.told happening result after tells.keeps_told

  same_accepted : (station : S) (before : Keeping M Q) (goes_on : Bool) (happening : Happening)
      (result : Result Bool LiveError) (after : Keeping M Q) → IsOther happening
      → KeepsAccepted keeps goes_on happening station result before.kept.now after.kept.now
      → IsSame before after
  same_accepted station before goes_on (WasHeard place octets) result after is keeping = absurd is
  same_accepted station before goes_on WasSilent result after is keeping = absurd is
  same_accepted station before goes_on (WasIgnored place octets) result after is keeping =
      keeping.keeps_step.1
  same_accepted station before goes_on (WasSent octets) result after is keeping =
      keeping.keeps_step.1
  same_accepted station before goes_on (WasWithheld octets) result after is keeping =
      keeping.keeps_step.1
  same_accepted station before goes_on (HasJoined place peer replaces) result after is keeping =
      keeping.keeps_step.1
  same_accepted station before goes_on (WasRefused peer why) result after is keeping =
      keeping.keeps_step.1
  same_accepted station before goes_on (HasClosed place peer why) result after is keeping =
      keeping.keeps_step.1
  same_accepted station before goes_on WasStopped result after is keeping = keeping.keeps_step.1

  same_if : (station : S) (before : Keeping M Q) (told : Result Bool LiveError)
      (happening : Happening) (result : Result Bool LiveError) (after : Keeping M Q)
      → IsOther happening
      → KeepsIfAccepted keeps told happening station result before.kept.now after.kept.now
      → IsSame before after
  same_if station before (Ok goes_on) happening result after is keeping =
      same_accepted station before goes_on happening result after is keeping
  same_if station before (Err error) happening result after is keeping = keeping.1

  -- What is told of anything else changes nothing of what is kept.
  same_of_other : (station : S) (before : Keeping M Q) (happening : Happening)
      (result : Result Bool LiveError) (after : Keeping M Q) → IsOther happening
      → Tells before station happening result after → IsSame before after
  same_of_other station before happening result after is tells =
      same_if station before tells.told happening result after is tells.keeps_told

  done_if_returned : (done : Result (Unit {0}) LiveError) (said goes_on : Bool) (station : S)
      (before after : Keeping M Q) → keeps before.kept.now station done after.kept.now
      → Ok goes_on ≡ if_done done said → Done station before after
  done_if_returned (Ok done) said goes_on station before after keeping returns = (done, keeping)
  done_if_returned (Err error) said goes_on station before after keeping clash = absurd cc

  done_if : (told : Result Bool LiveError) (happening : Happening) (station : S) (goes_on : Bool)
      (before after : Keeping M Q)
      → KeepsIfAccepted keeps told happening station (Ok goes_on) before.kept.now after.kept.now
      → ((done : Result (Unit {0}) LiveError)
      → KeepsIfStep keeps happening station done before.kept.now after.kept.now
      → keeps before.kept.now station done after.kept.now)
      → Done station before after
  done_if (Ok said) happening station goes_on before after keeping step =
      done_if_returned keeping.done said goes_on station before after
      (step keeping.done keeping.keeps_step) keeping.returns
  done_if (Err error) happening station goes_on before after (clash, same) step = absurd cc

  done_accepted : (station : S) (before : Keeping M Q) (happening : Happening) (goes_on : Bool)
      (after : Keeping M Q) → IsStep happening
      → Tells before station happening (Ok goes_on) after → Done station before after
  done_accepted station before happening goes_on after (inl is) tells =
      done_if tells.told happening station goes_on before after tells.keeps_told
      (λ done keeping.
      subst (λ (h : Happening). KeepsIfStep keeps h station done before.kept.now after.kept.now) is
      keeping)
  done_accepted station before happening goes_on after (inr (place, octets, is)) tells =
      done_if tells.told happening station goes_on before after tells.keeps_told
      (λ done keeping.
      subst (λ (h : Happening). KeepsIfStep keeps h station done before.kept.now after.kept.now) is
      keeping)

  -- What is sent or withheld changes nothing of what is kept.
  same_later : (station : S) (before : Keeping M Q) (in_time : Bool) (octets : List ℕ)
      (result : Result Bool LiveError) (after : Keeping M Q)
      → Tells before station (sent_if_in_time in_time octets) result after
      → after.kept.now ≡ before.kept.now
  same_later station before true octets result after tells =
      same_of_other station before (WasSent octets) result after tt tells
  same_later station before false octets result after tells =
      same_of_other station before (WasWithheld octets) result after tt tells

  left_later : (station : S) (first before : Keeping M Q) (in_time : Bool) (octets : List ℕ)
      (result : Result Bool LiveError) (after : Keeping M Q)
      → Tells before station (sent_if_in_time in_time octets) result after
      → Left station first before → Left station first after
  left_later station first before in_time octets result after tells left =
      subst
      (λ (q : Q). (q ≡ first.kept.now)
      ⊎ ((r : Result (Unit {0}) LiveError) × keeps first.kept.now station r q))
      (sym (same_later station before in_time octets result after tells)) left

  done_later : (station : S) (first before : Keeping M Q) (in_time : Bool) (octets : List ℕ)
      (result : Result Bool LiveError) (after : Keeping M Q)
      → Tells before station (sent_if_in_time in_time octets) result after
      → Done station first before → Done station first after
  done_later station first before in_time octets result after tells kept =
      subst (λ (q : Q). (done : Unit {0}) × keeps first.kept.now station (Ok done) q)
      (sym (same_later station before in_time octets result after tells)) kept

  module _ {R W F T : Type 0} (station : station_of.Ghosts S) (reader : read.Ghosts R)
      (writer : write.Ghosts W) (framing : framing_of.Ghosts F)
      (admits : Keeping M Q → S → ℕ → List ℕ → Bool)
      (may_answer : Keeping M Q → S → ℕ → Bool) (paces : Keeping M Q → Pace)
      (waiter : waiter_of.Ghosts T R W) where
    abbrev pub parts : SessionParts S R W F (Keeping M Q) T
    parts = session_parts station reader writer framing Tells admits may_answer paces waiter

    abbrev Now : Type 0
    Now = Session S (ConnectionValue R W F) (Keeping M Q) T

    -- What is shown of each step of a session with such a monitor.
    pub shown_by : (old new : Now) (happened : List Happening) (result : Result Bool LiveError)
        → Steps parts old happened result new
        → ShownOf Left Done IsSame old.station old.monitor happened result new.station new.monitor
    shown_by old new happened result steps =
        shown_of_step parts Left Done IsSame left_idle same_idle left_told done_accepted left_later
        done_later same_of_other old new happened result steps

    is_fine : (goes_on : Bool) (result : Result Bool LiveError) → goes_on ≡ is_ok result
        → goes_on ≡ true → (more : Bool) × (result ≡ Ok more)
    is_fine goes_on (Ok more) is fine = (more, refl)
    is_fine goes_on (Err error) is fine = let clash : true ≡ false = sym fine ∙ is in absurd cc

    event : (old new : Now) (happened : List Happening) (result : Result Bool LiveError)
        → Steps parts old happened result new → Moves station old.station new.station
    event =
        moves parts (Moves station) (λ s. inl refl)
        (λ before after heard answer hears. inr (inl (heard, answer, hears)))
        (λ before after answer acts. inr (inr (answer, acts)))

    -- Each step is one.
    pub one_step : (old new : Now) (happened : List Happening) (result : Result Bool LiveError)
        → Steps parts old happened result new
        → Step station keeps (all_sent happened) (is_ok result) (state_of old) (state_of new)
    one_step old new happened result steps =
        let shown = shown_by old new happened result steps in
        record {
          event = event old new happened result steps;
          left = shown.always;
          before_sent = shown.sent;
          before_next =
              λ fine.
              let ok = is_fine (is_ok result) result refl fine in
              shown.accepted_step ok.0 ok.1;
        }

    waited : (old new : Now) (waiter_after : T) → new ≡ record old { waiter = waiter_after }
        → state_of new ≡ state_of old
    waited old new waiter_after is = ap (λ (s : Now). state_of s) is

    -- So is a step, or a wait that fails.
    pub step_or_wait : (old new : Now) (result : Result Bool LiveError)
        → StepsOrFails parts old result new
        → StepsOrWaits station keeps (state_of old) result (state_of new)
    step_or_wait old new result (inl (happened, steps)) =
        inl (all_sent happened, one_step old new happened result steps)
    step_or_wait old new result (inr failure) =
        inr (waited old new new.waiter failure.others, ap (λ (r : Result Bool LiveError). is_ok r) failure.result_is)
