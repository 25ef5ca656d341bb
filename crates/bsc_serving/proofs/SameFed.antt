-- Programs ask the same station all the time, and the same keeps its records and watches it.
use Rattle.std.proofs.Common.{◌≡◌, ◌∙◌, ℕ, Bool, true, Option, None, Some, Result}
use Rattle.std.proofs.Common.{Ok, Err, ap, refl}
use Rattle.bsc_bid.specs.declared.sender.ReleaseError.{ReleaseError}
use Rattle.bsc_feed.specs.declared.fault.Fault.{Fault}
use Rattle.bsc_feed.specs.Answering.{Serving}
use Rattle.bsc_monitor.specs.declared.attendance.Presence.{Presence}
use Rattle.bsc_station.specs.declared.line_station.LineStation as line_of
use Rattle.bsc_station.specs.declared.party.Party as party_of
use Rattle.bsc_keeping.specs.declared.keeps.Keeps as keeps_of
use Rattle.bsc_serving.specs.Feds.{IsSameFed, KeepsIfDone, PollsIfKnown, serving_fed}
use Rattle.bsc_serving.specs.Serves.{IsAsked, asked, unasked}
use Rattle.bsc_serving.specs.declared.fed.Fed.{Fed}
use Rattle.bsc_serving.proofs.Changes.{goes_by_step}

-- both references are the same
pub record SameNames {S Q V : Type 0} (old new : Fed S Q V) : Type 0 where
  pub station : new.station.ghost_name ≡ old.station.ghost_name
  pub keeps : new.keeps.ghost_name ≡ old.keeps.ghost_name
  pub watch : new.watch.ghost_name ≡ old.watch.ghost_name

pub same_names : {S Q V : Type 0} (f : Fed S Q V) → SameNames f f
same_names f = record { station = refl; keeps = refl; watch = refl }

pub then : {S Q V : Type 0} (a b c : Fed S Q V) → SameNames a b → SameNames b c → SameNames a c
then a b c p q =
    record {
      station = q.station ∙ p.station;
      keeps = q.keeps ∙ p.keeps;
      watch = q.watch ∙ p.watch;
    }

if_same : {S Q V : Type 0} (a b : Fed S Q V) → b ≡ a → SameNames a b
if_same {S} {Q} {V} a b is =
    record {
      station = ap (λ (f : Fed S Q V). f.station.ghost_name) is;
      keeps = ap (λ (f : Fed S Q V). f.keeps.ghost_name) is;
      watch = ap (λ (f : Fed S Q V). f.watch.ghost_name) is;
    }

-- where the watch is the same altogether
of_fed : {S Q V : Type 0} (a b : Fed S Q V) → IsSameFed a b → SameNames a b
of_fed {S} {Q} {V} a b same =
    record {
      station = same.station;
      keeps = same.keeps;
      watch = ap (λ w. w.ghost_name) same.watch;
    }

module _ {S Q V M Z : Type 0} (party : party_of.Ghosts (Fed S Q V) M) (line : line_of.Ghosts S Z)
    (keeping : keeps_of.Ghosts Q S) (shows : V → ℕ → Option Presence)
    (obeys : V → ℕ → Bool → V → Type 0) where
  abbrev serves : Serving (Fed S Q V)
  serves = serving_fed line keeping shows obeys

  once_done : (answer : Result (Unit {0}) ReleaseError) (old : Fed S Q V)
      (result : Result (Unit {0}) Fault) (new : Fed S Q V)
      → KeepsIfDone line.releases keeping.keeps answer old result new → SameNames old new
  once_done (Ok done) old result new kept = of_fed old new kept.same
  once_done (Err error) old result new kept = if_same old new kept.1

  once_polled : (known : Option Presence) (old : Fed S Q V) (t : ℕ) (polled : Bool)
      (result : Result (Unit {0}) Fault) (new : Fed S Q V)
      → PollsIfKnown obeys known old t polled result new → SameNames old new
  once_polled None old t polled result new polls = if_same old new polls.1
  once_polled (Some presence) old t polled result new polls =
      record {
        station = ap (λ s. s.ghost_name) polls.station;
        keeps = ap (λ k. k.ghost_name) polls.keeps;
        watch = polls.watch;
      }

  -- what is asked, one step of a program after another
  pub asked_same : {old new : Fed S Q V} → IsAsked party serves (λ (f : Fed S Q V). f.failure) old new
      → SameNames old new
  asked_same {old} unasked = same_names old
  asked_same {old} {new} (asked {mid = mid} client next told fine nexts later) =
      then old mid new
      (goes_by_step party serves SameNames same_names
      (λ a t way chars result b offers. of_fed a b offers.1.same)
      (λ a t way count result b releasing.
      then a releasing.between b
      (of_fed a releasing.between releasing.same)
      (once_done releasing.answer releasing.between result b releasing.keeping))
      (λ a takes result b changing. of_fed a b changing.same)
      (λ a result b changing. of_fed a b changing.same)
      (λ a t polled result b polls. once_polled (shows a.watch.now t) a t polled result b polls)
      (λ a b is.
      record {
        station = ap (λ (f : Fed S Q V). f.station.ghost_name) is;
        keeps = ap (λ (f : Fed S Q V). f.keeps.ghost_name) is;
        watch = ap (λ (f : Fed S Q V). f.watch.ghost_name) is;
      })
      client old told next mid nexts)
      (asked_same later)
