-- What the system has reported of the sockets of programs, and what is told of it.
use Rattle.std.specs.Prelude.{◌≡◌, ℕ, ◌==◌, nat_lt, Bool, true, false, if◌then◌else◌}
use Rattle.std.specs.Prelude.{List, [], ◌∷◌, Option, Some, None, option_map, position}
use Rattle.std.specs.Prelude.{replicate, slice_set}
use Rattle.mio.specs.Event.{event_token}
use Rattle.mio.specs.declared.event.event.Event.{Event}
use Rattle.bsc_serving.specs.declared.programs.TheConstants.{MAX_PROGRAMS}
use Rattle.bsc_serving.specs.declared.programs.Called.{Called}
use Rattle.bsc_serving.specs.declared.programs.Called.TheVariants.{Newcomer, Program}
use Rattle.bsc_clients.specs.declared.calls.TheConstants.{LISTENER}

-- Whether a program that has connected may still wait to be taken, whether it is still to be told
-- that one may have connected, and of each place whether it is still to be told of.
pub record CallsValue : Type 0 where
  pub waiting : Bool
  pub newcomer : Bool
  pub places : List Bool

-- Before the system was asked.
abbrev pub nothing_called : CallsValue
nothing_called = record {
  waiting = false;
  newcomer = false;
  places = replicate MAX_PROGRAMS false;
}

-- After the socket with this token was reported: that of the listener, of a place, or another one.
abbrev pub with_token : CallsValue → ℕ → CallsValue
with_token calls token =
    if token == LISTENER then record calls { waiting = true }
    else if nat_lt token MAX_PROGRAMS
    then record calls { places = slice_set calls.places token true }
    else calls

-- After the sockets of these events were reported, in order.
abbrev pub with_tokens : CallsValue → List Event → CallsValue
with_tokens calls [] = calls
with_tokens calls (event ∷ events) = with_tokens (with_token calls (event_token event).0) events

-- After the system was asked, and reported these events.
abbrev pub after_asking : CallsValue → List Event → CallsValue
after_asking calls events =
    let reported = with_tokens calls events in
    record reported { newcomer = reported.waiting }

-- The first of some marks is removed, at this place; or there is none.
abbrev pub IsTakenAt : Option ℕ → List Bool → Option ℕ → List Bool → Type 0
IsTakenAt None old taken new = (taken ≡ None) × (new ≡ old)
IsTakenAt (Some place) old taken new = (taken ≡ Some place) × (new ≡ slice_set old place false)

abbrev pub IsTaken : List Bool → Option ℕ → List Bool → Type 0
IsTaken old taken new = IsTakenAt (position (λ marked. marked) old) old taken new

-- What is told of a place.
abbrev pub told_of : Option ℕ → Option Called
told_of place = option_map Program place

-- What is told next: that a program may have connected, or else the first place. Each is told once.
abbrev pub IsNextOf : Bool → CallsValue → Option Called → CallsValue → Type 0
IsNextOf true old told new = (told ≡ Some Newcomer) × (new ≡ record old { newcomer = false })
IsNextOf false old told new =
    (place : Option ℕ) × (told ≡ told_of place)
    × IsTaken old.places place new.places
    × (new ≡ record old { places = new.places })

abbrev pub IsNext : CallsValue → Option Called → CallsValue → Type 0
IsNext old told new = IsNextOf old.newcomer old told new
