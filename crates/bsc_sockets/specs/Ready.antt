-- The order in which places are served.
use Rattle.std.specs.Prelude.{◌≡◌, ◌∷◌, ◌++◌, ◌==◌, ◌||◌, [], Bool, List, ℕ, Option, None, Some}
use Rattle.std.specs.Prelude.{if◌then◌else◌, not, filter}
use Rattle.std.specs.List.{list_any}
use Rattle.mio.specs.Event.{event_token}
use Rattle.mio.specs.declared.event.event.Event.{Event}
use Rattle.bsc_sockets.specs.declared.asking.TheConstants.{WORK}
use Rattle.bsc_sockets.specs.declared.stopping.TheConstants.{INPUT}

-- These places, followed by this one unless it is one of them.
abbrev pub with_place : List ℕ → ℕ → List ℕ
with_place places place =
    if list_any (λ other. other == place) places then places else (places ++ place ∷ [])

-- Whether an event with this token is of no connection and of no listener, but of the input or of
-- work beside the line.
abbrev pub is_apart : ℕ → Bool
is_apart token = (token == INPUT) || (token == WORK)

-- These places, followed by that of an event, if it has a place.
abbrev pub with_event : List ℕ → ℕ → List ℕ
with_event places place = if is_apart place then places else with_place places place

-- These places, followed by those of these events, in order.
abbrev pub with_events : List ℕ → List Event → List ℕ
with_events places [] = places
with_events places (event ∷ events) = with_events (with_event places (event_token event).0) events

-- These places without this one.
abbrev pub without_place : List ℕ → ℕ → List ℕ
without_place places place = filter (λ other. not (other == place)) places

-- The first place is served and becomes the last; if there are no places none is served.
abbrev pub IsServed : List ℕ → Option ℕ → List ℕ → Type 0
IsServed [] served after = (served ≡ None) × (after ≡ [])
IsServed (place ∷ rest) served after = (served ≡ Some place) × (after ≡ rest ++ place ∷ [])

-- This place is the last of the list: it was served last.
pub record WasServed (places : List ℕ) (place : ℕ) : Type 0 where
  pub others : List ℕ
  pub is : places ≡ others ++ place ∷ []
