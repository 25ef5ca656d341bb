-- Steps of programs, one after another.
use Rattle.std.proofs.Common.{◌≡◌, ℕ, List, [], ◌∷◌, None, Option, subst, sym}
use Rattle.std.specs.declared.io.Read as read_of
use Rattle.std.specs.declared.io.Write as write_of
use Rattle.bsc_connections.specs.declared.awaited.LiveError.{LiveError}
use Rattle.bsc_feed.specs.Answering.{Serving}
use Rattle.bsc_station.specs.declared.party.Party as party_of
use Rattle.bsc_serving.specs.declared.session.Session.{Session}
use Rattle.bsc_serving.specs.declared.session.Step.{Step}
use Rattle.bsc_serving.specs.Serves.{IsAsked, IsServed, asked, unasked}
use Rattle.bsc_serving.specs.Sessions.{StepsBy, StepsOn}

module _ {S M : Type 0} (party : party_of.Ghosts S M) (serves : Serving S)
    (fails : S → Option LiveError) where
  -- what is asked is followed by what is asked after it
  pub asked_after : {old mid new : S} → IsAsked party serves fails old mid
      → IsAsked party serves fails mid new → IsAsked party serves fails old new
  asked_after unasked later = later
  asked_after (asked client next told fine nexts sooner) later =
      asked client next told fine nexts (asked_after sooner later)

  module _ {T : Type 0} (read : read_of.Ghosts T) (write : write_of.Ghosts T) where
    asked_by : (left : List ℕ) (old : Session T) (before : S) (result : Step) (new : Session T)
        (after : S) → fails before ≡ None
        → StepsBy party serves read write left old before result new after
        → IsAsked party serves fails before after
    asked_by [] old before result new after fine tells =
        asked old.client tells.client tells.told fine tells.nexts unasked
    asked_by (octet ∷ more) old before result new after fine (writes, same) =
        subst (λ (s : S). IsAsked party serves fails before s) (sym same) unasked

    -- a step of a session asks the station at most once
    pub asked_in_step : (old : Session T) (before : S) (result : Step) (new : Session T) (after : S)
        → fails before ≡ None → StepsOn party serves read write old before result new after
        → IsAsked party serves fails before after
    asked_in_step old before result new after fine steps =
        asked_by old.outbox old before result new after fine steps

    -- a step after others that left no failure, and the failure that it leaves
    pub served_by_step : {start mid after : S} {failure : Option LiveError} (old : Session T)
        (result : Step) (new : Session T) → IsServed party serves fails start None mid
        → StepsOn party serves read write old mid result new after → fails after ≡ failure
        → IsServed party serves fails start failure after
    served_by_step {mid = mid} {after = after} old result new before steps so = record {
      is_asked =
          asked_after before.is_asked
          (asked_in_step old mid result new after before.fails_so steps);
      fails_so = so;
    }

  -- turns of serving, one after another
  pub served_after : {start mid after : S} {failure : Option LiveError}
      → IsServed party serves fails start None mid → IsServed party serves fails mid failure after
      → IsServed party serves fails start failure after
  served_after sooner later = record {
    is_asked = asked_after sooner.is_asked later.is_asked;
    fails_so = later.fails_so;
  }

  -- nothing is asked
  pub not_served : {station : S} → fails station ≡ None
      → IsServed party serves fails station None station
  not_served fine = record { is_asked = unasked; fails_so = fine }
