-- What a monitor is told in a step of a session.
use Rattle.std.specs.Prelude.{⊤}
use Rattle.std.proofs.Common.{◌≡◌, ◌≢◌, ℕ, Bool, true, false, List, [], ◌∷◌, Option, None}
use Rattle.std.proofs.Common.{Some}
use Rattle.std.proofs.Common.{Result, Ok, Err, refl, sym, ◌∙◌, ap, subst, slice_get, ◌⊎◌, inl, inr}
use Rattle.bsc_frame.specs.Wire.{wire}
use Rattle.bsc_frame.specs.declared.message.Message.{Message}
use Rattle.bsc_connections.specs.declared.awaited.Awaited.{Awaited}
use Rattle.bsc_connections.specs.declared.awaited.Awaited.TheVariants.{Octets, Newcomer, Gap}
use Rattle.bsc_connections.specs.declared.awaited.Awaited.TheVariants.{NotAccepted, NotAllowed}
use Rattle.bsc_connections.specs.declared.awaited.Awaited.TheVariants.{TimeOut, Stopped, Client}
use Rattle.bsc_connections.specs.declared.awaited.LiveError.{LiveError}
use Rattle.bsc_connections.specs.declared.connection.Taken.{Taken}
use Rattle.bsc_connections.specs.declared.connection.Taken.TheVariants.{Nothing, Interrupted, Part}
use Rattle.bsc_connections.specs.declared.connection.Taken.TheVariants.{Whole, Closed}
use Rattle.bsc_connections.specs.Parts.{SessionParts}
use Rattle.bsc_connections.specs.Connections.{ConnectionValue}
use Rattle.bsc_connections.specs.Histories.{Happening, WasHeard, WasSilent, sent_where_some}
use Rattle.bsc_connections.specs.Histories.{sent_if_in_time}
use Rattle.bsc_connections.specs.Histories.{all_sent}
use Rattle.bsc_connections.specs.Attending.{Session, Answers, TellsSent, Steps}
use Rattle.bsc_connections.specs.Attending.{both_go_on, due_if_accepted, ReadsAt, GapPasses}
use Rattle.bsc_connections.specs.Attending.{Joins, JoinsAs}
use Rattle.bsc_connections.specs.Attending.{Does, awaits_gap, Arrives, HearsIfAdmitted}
use Rattle.bsc_connections.specs.Attending.{TellsOne}

-- Something by which a station may have changed: it heard a transmission, or acted on a silence.
abbrev pub IsStep : Happening → Type 0
IsStep happening =
    (happening ≡ WasSilent)
    ⊎ ((place : ℕ) × (octets : List ℕ) × (happening ≡ WasHeard place octets))

-- Something else.
abbrev pub IsOther : Happening → Type 0
IsOther (WasHeard place octets) = ⊥
IsOther WasSilent = ⊥
IsOther _ = ⊤

-- What is shown of a step from one station and monitor to others.
pub record ShownOf {S M : Type 0} (Q P : S → M → M → Type 0) (N : M → M → Type 0) (old : S)
    (before : M) (happened : List Happening) (result : Result Bool LiveError) (new : S)
    (after : M) : Type 0 where
  pub always : Q new before after
  pub sent : all_sent happened ≢ [] → P new before after
  pub accepted_step : (goes_on : Bool) → result ≡ Ok goes_on
      → P new before after ⊎ ((new ≡ old) × N before after)

-- Q holds between two states of a monitor if nothing or anything is told between them, P if it
-- accepts what it is told of a step of the station, and N if it is told of anything else; all go on
-- over what is sent or withheld. Then Q holds of every step of a session, P of every step in which
-- something is sent, and of every step without an error P or N, and then the station is the same.
module _ {S R W F M T : Type 0} (parts : SessionParts S R W F M T)
    (Q : S → M → M → Type 0) (P : S → M → M → Type 0) (N : M → M → Type 0)
    (idle : (station : S) (before : M) → Q station before before)
    (same : (before : M) → N before before)
    (other : (station : S) (before : M) (happening : Happening) (result : Result Bool LiveError)
    (after : M) → parts.is_told before station happening result after → Q station before after)
    (accepted : (station : S) (before : M) (happening : Happening) (goes_on : Bool) (after : M)
    → IsStep happening → parts.is_told before station happening (Ok goes_on) after
    → P station before after)
    (q_later : (station : S) (first before : M) (in_time : Bool) (octets : List ℕ)
    (result : Result Bool LiveError) (after : M)
    → parts.is_told before station (sent_if_in_time in_time octets) result after
    → Q station first before → Q station first after)
    (p_later : (station : S) (first before : M) (in_time : Bool) (octets : List ℕ)
    (result : Result Bool LiveError) (after : M)
    → parts.is_told before station (sent_if_in_time in_time octets) result after
    → P station first before → P station first after)
    (untouched : (station : S) (before : M) (happening : Happening) (result : Result Bool LiveError)
    (after : M) → IsOther happening → parts.is_told before station happening result after
    → N before after) where
  abbrev Now : Type 0
  Now = Session S (ConnectionValue R W F) M T

  abbrev Shown : Now → List Happening → Result Bool LiveError → Now → Type 0
  Shown old happened result new =
      ShownOf Q P N old.station old.monitor happened result new.station new.monitor

  told_nothing : (old : Now) (happened : List Happening) (result : Result Bool LiveError)
      (new : Now) → new.station ≡ old.station → happened ≡ []
      → new.monitor ≡ old.monitor → Shown old happened result new
  told_nothing old happened result new station none is =
      record {
        always =
            subst (λ (m : M). Q new.station old.monitor m) (sym is) (idle new.station old.monitor);
        sent = λ some. absurd (some (ap all_sent none));
        accepted_step =
            λ goes_on ok.
            inr (station, subst (λ (m : M). N old.monitor m) (sym is) (same old.monitor));
      }

  told_one : (happening : Happening) (old : Now) (happened : List Happening)
      (result : Result Bool LiveError) (new : Now) → new.station ≡ old.station
      → all_sent (happening ∷ []) ≡ [] → IsOther happening
      → TellsOne parts happening new.station old.monitor happened result new.monitor
      → Shown old happened result new
  told_one happening old happened result new station unsent is_other (is, tells) =
      record {
        always = other new.station old.monitor happening result new.monitor tells;
        sent = λ some. absurd (some (ap all_sent is ∙ unsent));
        accepted_step =
            λ goes_on ok.
            inr (
              station,
              untouched new.station old.monitor happening result new.monitor is_other tells,
            );
      }

  -- What is due is sent or withheld, and that is told.
  after_sending : (in_time : Bool) (due : Option Message) (told : Result Bool LiveError)
      (answer : Option Message) (station : S) (first before after : M)
      (later : Result Bool LiveError) → due ≡ due_if_accepted told answer
      → Q station first before
      → ((goes_on : Bool) → told ≡ Ok goes_on → P station first before)
      → TellsSent parts.connection parts.is_told parts.waiter.permits in_time due station before
      later after
      → Q station first after
      × (all_sent (sent_where_some in_time due) ≢ [] → P station first after)
  after_sending in_time None told answer station first before after later is q p tells = (
    subst (λ (m : M). Q station first m) (sym tells.1) q,
    λ some. absurd (some refl),
  )
  after_sending in_time (Some m) (Err error) answer station first before after later is q p tells =
      let clash : Some m ≡ None = is in absurd cc
  after_sending in_time (Some m) (Ok goes_on) answer station first before after later is q p
      tells = (
        q_later station first before in_time (wire m) later after tells q,
        λ some.
            p_later station first before in_time (wire m) later after tells (p goes_on refl),
      )

  -- If both are accepted, P holds after both.
  accepted_after : (in_time : Bool) (due : Option Message) (told : Result Bool LiveError)
      (station : S) (first before after : M) (later : Result Bool LiveError) (goes_on : Bool)
      → ((more : Bool) → told ≡ Ok more → P station first before)
      → TellsSent parts.connection parts.is_told parts.waiter.permits in_time due station before
      later after
      → both_go_on told later ≡ Ok goes_on → P station first after
  accepted_after in_time None (Ok more) station first before after later goes_on p tells is =
      subst (λ (m : M). P station first m) (sym tells.1) (p more refl)
  accepted_after in_time (Some m) (Ok more) station first before after later goes_on p tells is =
      p_later station first before in_time (wire m) later after tells (p more refl)
  accepted_after in_time None (Err error) station first before after later goes_on p tells is =
      let clash : Err error ≡ Ok goes_on = is in absurd cc
  accepted_after in_time (Some m) (Err error) station first before after later goes_on p tells is =
      let clash : Err error ≡ Ok goes_on = is in absurd cc

  by_answer : (happening : Happening) (answer : Option Message) (old : Now)
      (happened : List Happening) (result : Result Bool LiveError) (new : Now) → IsStep happening
      → ((more : List Happening) → all_sent (happening ∷ more) ≡ all_sent more)
      → Answers parts happening answer old happened result new → Shown old happened result new
  by_answer happening answer old happened result new step unsent a =
      let r = a.replies in
      let kept : (goes_on : Bool) → a.told ≡ Ok goes_on
      → P new.station old.monitor a.monitor =
      λ goes_on is.
      accepted new.station old.monitor happening goes_on a.monitor step
      (subst
      (λ (t : Result Bool LiveError).
      parts.is_told old.monitor new.station happening t a.monitor) is a.tells) in
      let d =
      after_sending r.in_time r.due a.told answer new.station old.monitor a.monitor new.monitor
      r.told_later r.accepted
      (other new.station old.monitor happening a.told a.monitor a.tells) kept r.tells_sent in
      record {
        always = d.0;
        sent =
            λ some.
            d.1
            (λ none.
            some (ap all_sent a.happens ∙ unsent a.later ∙ ap all_sent r.happens ∙ none));
        accepted_step =
            λ goes_on is.
            inl
            (accepted_after r.in_time r.due a.told new.station old.monitor a.monitor new.monitor
            r.told_later goes_on kept r.tells_sent (sym r.result_is ∙ is));
      }

  by_hearing : (admitted : Bool) (place : ℕ) (octets : List ℕ) (old : Now)
      (happened : List Happening) (result : Result Bool LiveError) (new : Now)
      → HearsIfAdmitted parts admitted place octets old happened result new
      → Shown old happened result new
  by_hearing true place octets old happened result new h =
      by_answer (WasHeard place octets) h.answer old happened result new
      (inr (place, octets, refl)) (λ more. refl) h.answers
  by_hearing false place octets old happened result new (station, kept, told, waits) =
      told_one _ old happened result new station refl tt told

  by_arrival : (place : ℕ) (old : Now) (happened : List Happening)
      (result : Result Bool LiveError) (new : Now) → Arrives parts place old happened result new
      → Shown old happened result new
  by_arrival place old happened result new a =
      by_hearing
      (parts.admits old.monitor old.station place
      (parts.connection.framing.last a.connection.framing))
      place (parts.connection.framing.last a.connection.framing) old happened result new a.heard

  by_read : (taken : Taken) (place : ℕ) (old : Now) (happened : List Happening)
      (result : Result Bool LiveError) (new : Now)
      → ReadsAt parts place taken old happened result new → Shown old happened result new
  by_read Whole place old happened result new (between, taken, h) =
      by_arrival place (record old { connections = between }) happened result new h
  by_read Nothing place old happened result new r =
      told_nothing old happened result new r.station r.tells.0 r.tells.2
  by_read Interrupted place old happened result new r =
      told_nothing old happened result new r.station r.tells.0 r.tells.2
  by_read Part place old happened result new r =
      told_nothing old happened result new r.station r.tells.0 r.tells.2
  by_read (Closed why) place old happened result new r =
      told_one _ old happened result new r.station refl tt r.tells

  by_peer : (joined : Option (R × W)) (place : ℕ) (old : Now) (happened : List Happening)
      (result : Result Bool LiveError) (new : Now) → new.station ≡ old.station
      → JoinsAs parts place joined new.station new.waiter
      (record { connections = old.connections; monitor = old.monitor }) happened result
      (record { connections = new.connections; monitor = new.monitor })
      → Shown old happened result new
  by_peer None place old happened result new station (kept, none) =
      told_nothing old happened result new station none.0 none.2
  by_peer (Some ends) place old happened result new station (changes, peer, named, joined) =
      told_one _ old happened result new station refl tt joined

  by_joining : (given : Option ℕ) (old : Now) (happened : List Happening)
      (result : Result Bool LiveError) (new : Now) → new.station ≡ old.station
      → Joins parts given old happened result new → Shown old happened result new
  by_joining None old happened result new station (kept, turned, peer, named, refused) =
      told_one _ old happened result new station refl tt refused
  by_joining (Some place) old happened result new station (joined, joins, joining) =
      by_peer joined place old happened result new station joining

  by_gap : (awaits : Bool) (place : ℕ) (old : Now) (happened : List Happening)
      (result : Result Bool LiveError) (new : Now)
      → GapPasses parts place awaits old happened result new → Shown old happened result new
  by_gap true place old happened result new h =
      by_arrival place (record old { connections = h.between }) happened result new h.arrives
  by_gap false place old happened result new (none, ok, kept) =
      told_nothing old happened result new (ap (λ (s : Now). s.station) kept) none
      (ap (λ (s : Now). s.monitor) kept)

  by_event : (awaited : Awaited) (old : Now) (happened : List Happening)
      (result : Result Bool LiveError) (new : Now)
      → Does parts awaited old happened result new → Shown old happened result new
  by_event (Octets place) old happened result new (taken, reads) =
      by_read taken place old happened result new reads
  by_event Newcomer old happened result new (station, given, for_it, joins) =
      by_joining given old happened result new station joins
  by_event NotAccepted old happened result new (station, kept, refused, waits) =
      told_one _ old happened result new station refl tt refused
  by_event NotAllowed old happened result new (station, (kept, turned, peer, named, refused)) =
      told_one _ old happened result new station refl tt refused
  by_event (Gap place) old happened result new passes =
      by_gap (awaits_gap parts.connection.framing.awaits (slice_get old.connections place)) place
      old happened result new passes
  by_event TimeOut old happened result new silent =
      by_answer WasSilent silent.answer old happened result new (inl refl) (λ more. refl)
      silent.answers
  by_event Stopped old happened result new (station, kept, stopped, waits) =
      told_one _ old happened result new station refl tt stopped
  by_event Client old happened result new (none, ok, kept) =
      told_nothing old happened result new (ap (λ (s : Now). s.station) kept) none
      (ap (λ (s : Now). s.monitor) kept)

  pub shown_of_step : (old new : Now) (happened : List Happening)
      (result : Result Bool LiveError) → Steps parts old happened result new
      → Shown old happened result new
  shown_of_step old new happened result step =
      by_event step.awaited (record old { waiter = step.waiter }) happened result new step.does
