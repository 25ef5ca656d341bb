-- Whether a station is asked to end, and how often it was told so.
use Rattle.std.specs.Prelude.{◌≡◌, ℕ, ◌==◌, ◌&&◌, Bool, true, false}
use Rattle.std.specs.List.{list_any}
use Rattle.mio.specs.Event.{event_token, is_read_closed}
use Rattle.mio.specs.Events.{items}
use Rattle.mio.specs.declared.event.events.Events.{Events}
use Rattle.bsc_connections.specs.declared.awaited.Awaited.{Awaited}
use Rattle.bsc_connections.specs.declared.awaited.Awaited.TheVariants as awaited
use Rattle.bsc_sockets.specs.declared.stopping.Stopping.{Stopping}
use Rattle.bsc_sockets.specs.declared.stopping.Stopping.TheVariants.{NotAsked, Asked, Told}
use Rattle.bsc_sockets.specs.declared.stopping.Stopping.TheVariants.{ToldAgain}
use Rattle.bsc_sockets.specs.Times.{HasBegun}
use Rattle.std.specs.declared.time.Duration.{Duration}

-- How often the station was told: at most twice.
abbrev pub times_told : Stopping → ℕ
times_told NotAsked = 0
times_told Asked = 0
times_told (Told since) = 1
times_told ToldAgain = 2

-- Whether the station is asked to end, and was not told.
abbrev pub is_asked : Stopping → Bool
is_asked NotAsked = false
is_asked Asked = true
is_asked (Told since) = false
is_asked ToldAgain = false

-- After a station was asked to end: what it was told already it is not told anew.
abbrev pub asked : Stopping → Stopping
asked NotAsked = Asked
asked Asked = Asked
asked (Told since) = Told since
asked ToldAgain = ToldAgain

-- After a station was asked to end, if it was.
abbrev pub asked_if : Bool → Stopping → Stopping
asked_if true before = asked before
asked_if false before = before

-- Whether one of these events is that the source with this token is closed by its other end.
abbrev pub is_closed_in : {A : Type 0} → ℕ → Events A → Bool
is_closed_in token events =
    list_any (λ event. ((event_token event).0 == token) && is_read_closed event) (items events)

-- One for true.
abbrev pub count_if : Bool → ℕ
count_if true = 1
count_if false = 0

-- How often an event tells the station to end.
abbrev pub stops_in : Awaited → ℕ
stops_in awaited.Stopped = 1
stops_in _ = 0

-- If the station was told once, the time after which it is told a second time has begun, and has
-- this length; else nothing changes.
abbrev pub StopRuns : Duration → Stopping → Stopping → Type 0
StopRuns whole (Told since) (Told later) = HasBegun whole since later
StopRuns whole (Told since) _ = ⊥
StopRuns whole before after = after ≡ before
