-- A monitor that keeps what a station changes has the same keep it all the time, and tells the same
-- inner monitor.
use Rattle.std.proofs.Common.{◌≡◌, ℕ, Bool, List, Option, Result, Ok, refl, ◌∙◌, ap, inl, inr}
use Rattle.std.specs.declared.io.Read as read
use Rattle.std.specs.declared.io.Write as write
use Rattle.bsc_bid.specs.declared.station.Station as station_of
use Rattle.bsc_connections.specs.declared.awaited.LiveError.{LiveError}
use Rattle.bsc_connections.specs.declared.awaited.Pace.{Pace}
use Rattle.bsc_connections.specs.declared.awaited.Waiter as waiter_of
use Rattle.bsc_connections.specs.declared.framing.Framing as framing_of
use Rattle.bsc_connections.specs.Attending.{Session, Steps, StepsOrFails}
use Rattle.bsc_connections.specs.Connections.{ConnectionValue}
use Rattle.bsc_connections.specs.Histories.{Happening, sent_if_in_time}
use Rattle.bsc_connections.specs.Parts.{SessionParts, session_parts}
use Rattle.bsc_keeping.specs.Monitors.{TellsAndKeeps}
use Rattle.bsc_keeping.specs.declared.keeping.Keeping.{Keeping}
use Rattle.bsc_keeping.proofs.Tellings.{shown_of_step}

-- the references of two such monitors are the same
pub record SameNames {M Q : Type 0} (before after : Keeping M Q) : Type 0 where
  pub watch : after.watch.ghost_name ≡ before.watch.ghost_name
  pub kept : after.kept.ghost_name ≡ before.kept.ghost_name

same_names : {M Q : Type 0} (m : Keeping M Q) → SameNames m m
same_names m = record { watch = refl; kept = refl }

then : {M Q : Type 0} (a b c : Keeping M Q) → SameNames a b → SameNames b c → SameNames a c
then a b c p q = record { watch = q.watch ∙ p.watch; kept = q.kept ∙ p.kept }

if_same : {M Q : Type 0} (a b : Keeping M Q) → b ≡ a → SameNames a b
if_same {M = M} {Q = Q} a b is =
    record {
      watch = ap (λ (m : Keeping M Q). m.watch.ghost_name) is;
      kept = ap (λ (m : Keeping M Q). m.kept.ghost_name) is;
    }

module _ {S M Q : Type 0} (keeps : Q → S → Result (Unit {0}) LiveError → Q → Type 0)
    (is_told : M → S → Happening → Result Bool LiveError → M → Type 0) where
  abbrev Tells : Keeping M Q → S → Happening → Result Bool LiveError → Keeping M Q → Type 0
  Tells = TellsAndKeeps keeps is_told

  abbrev Same : S → Keeping M Q → Keeping M Q → Type 0
  Same station before after = SameNames before after

  told : (station : S) (before : Keeping M Q) (happening : Happening)
      (result : Result Bool LiveError) (after : Keeping M Q)
      → Tells before station happening result after → SameNames before after
  told station before happening result after tells =
      record { watch = tells.same_watch; kept = tells.same_kept }

  later : (station : S) (first before : Keeping M Q) (in_time : Bool) (octets : List ℕ)
      (result : Result Bool LiveError) (after : Keeping M Q)
      → Tells before station (sent_if_in_time in_time octets) result after
      → SameNames first before → SameNames first after
  later station first before in_time octets result after tells same =
      then first before after same
      (told station before (sent_if_in_time in_time octets) result after tells)

  module _ {R W F T : Type 0} (station : station_of.Ghosts S) (reader : read.Ghosts R)
      (writer : write.Ghosts W) (framing : framing_of.Ghosts F)
      (admits : Keeping M Q → S → ℕ → List ℕ → Bool)
      (may_answer : Keeping M Q → S → ℕ → Bool) (paces : Keeping M Q → Pace)
      (waiter : waiter_of.Ghosts T R W) where
    abbrev parts : SessionParts S R W F (Keeping M Q) T
    parts = session_parts station reader writer framing Tells admits may_answer paces waiter

    abbrev Now : Type 0
    Now = Session S (ConnectionValue R W F) (Keeping M Q) T

    -- so it is in a step, and in a wait that fails
    pub names_in_step : (old new : Now) (result : Result Bool LiveError)
        → StepsOrFails parts old result new → SameNames old.monitor new.monitor
    names_in_step old new result (inl (happened, steps)) =
        let shown =
        shown_of_step parts Same Same SameNames (λ s m. same_names m) same_names told
        (λ s before happening goes_on after is tells.
        told s before happening (Ok goes_on) after tells)
        later later
        (λ s before happening result after is tells. told s before happening result after tells)
        old new happened result steps in
        shown.always
    names_in_step old new result (inr failure) =
        if_same old.monitor new.monitor (ap (λ (s : Now). s.monitor) failure.others)
