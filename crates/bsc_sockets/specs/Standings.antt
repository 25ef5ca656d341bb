-- Which peers are stations of the line, and for how long nobody has answered at each place.
use Rattle.std.specs.Prelude.{◌≡◌, ◌<◌, ◌≤◌, ◌-◌, ◌+◌, ◌^◌, min, ℕ, Bool, true, false, List}
use Rattle.std.specs.Prelude.{Option, None, Some, slice_get, slice_set, replicate}
use Rattle.std.specs.Prelude.{if◌then◌else◌, nat_eq, not}
use Rattle.bsc_connections.specs.declared.awaited.Awaited.{Awaited}
use Rattle.bsc_connections.specs.declared.awaited.Awaited.TheVariants.{TimeOut}
use Rattle.bsc_connections.specs.declared.awaited.Handled.{Handled}
use Rattle.bsc_connections.specs.declared.awaited.Handled.TheVariants.{Answered, Unanswered}
use Rattle.bsc_connections.specs.declared.awaited.Handled.TheVariants.{Silence}
use Rattle.std.specs.declared.net.socket_addr.SocketAddr.{SocketAddr}
use Rattle.bsc_sockets.specs.declared.standings.Standing.{Standing}
use Rattle.bsc_sockets.specs.declared.standings.Standings.{Standings}
use Rattle.bsc_sockets.specs.declared.times.Time.{Time}
use Rattle.bsc_sockets.specs.declared.times.Time.TheVariants.{Anew}

-- What is known of the peer at each place, the time of all silences, and how many answers the
-- station has given.
pub record StandingsValue : Type 0 where
  pub places : List Standing
  pub silence : ℕ
  pub turns : ℕ

abbrev pub standings_value : {A : Type 0} → Standings A → StandingsValue
standings_value s = record { places = s.places.items; silence = s.silence; turns = s.turns }

-- Nothing is known of the peer of a place.
abbrev pub unknown : Standing
unknown = record { peer = None; since = 0; turn = 0 }

-- What is known of this many places before a peer has connected.
abbrev pub new_standings : ℕ → StandingsValue
new_standings places = record { places = replicate places unknown; silence = 0; turns = 0 }

-- The address of the peer of a place, if it is known.
abbrev pub peer_of : Option Standing → Option SocketAddr
peer_of None = None
peer_of (Some standing) = standing.peer

-- The standings after this place has become that, if there is such a place.
abbrev pub changed_at : StandingsValue → ℕ → Option Standing → StandingsValue
changed_at standings place None = standings
changed_at standings place (Some new) =
    record standings { places = slice_set standings.places place new }

-- The peer of a place connects: nobody has answered it yet.
abbrev pub newly : Option SocketAddr → ℕ → Option Standing → Option Standing
newly peer silence None = None
newly peer silence (Some old) = Some (record { peer = peer; since = silence; turn = 0 })

-- The station has answered the peer of a place, by the answer with this number.
abbrev pub now_answered : ℕ → ℕ → Option Standing → Option Standing
now_answered silence turn None = None
now_answered silence turn (Some old) = Some (record old { since = silence; turn = turn })

-- The number of the next answer, up to 2^64 - 1.
abbrev pub next_turn : StandingsValue → ℕ
next_turn standings = min (standings.turns + 1) (2 ^ 64 - 1)

-- The standings after this peer has connected at this place.
abbrev pub after_joining : Option SocketAddr → StandingsValue → ℕ → Option Standing → StandingsValue
after_joining peer standings place old =
    changed_at standings place (newly peer standings.silence old)

-- The standings after the station has answered a transmission from this place.
abbrev pub after_answer : StandingsValue → ℕ → Option Standing → StandingsValue
after_answer standings place old =
    changed_at (record standings { turns = next_turn standings }) place
    (now_answered standings.silence (next_turn standings) old)

-- Whether the station has answered the peer of this place.
abbrev pub was_answered : Option Standing → Bool
was_answered None = false
was_answered (Some standing) = not (nat_eq standing.turn 0)

-- Whether the station has answered the peer at this place.
abbrev pub is_known : StandingsValue → ℕ → Bool
is_known standings place = was_answered (slice_get standings.places place)

-- For how much silence nobody has answered at this place.
abbrev pub quiet_of : ℕ → Option Standing → ℕ
quiet_of silence None = 0
quiet_of silence (Some standing) = silence - standing.since

abbrev pub quiet_at : StandingsValue → ℕ → ℕ
quiet_at standings place = quiet_of standings.silence (slice_get standings.places place)

-- The number of the last answer to the peer of a place; 0 if there was none.
abbrev pub turn_of : Option Standing → ℕ
turn_of None = 0
turn_of (Some standing) = standing.turn

abbrev pub turn_at : StandingsValue → ℕ → ℕ
turn_at standings place = turn_of (slice_get standings.places place)

-- At the first place nobody has answered for no more silence than at the second; and if it is as
-- much, the peer of the first was not answered before that of the second.
abbrev pub IsNoQuieter : StandingsValue → ℕ → ℕ → Type 0
IsNoQuieter standings first second =
    (quiet_at standings first ≤ quiet_at standings second)
    × (quiet_at standings first ≡ quiet_at standings second
    → turn_at standings second ≤ turn_at standings first)

-- Of this many places the one where nobody has answered for the most silence, if that is at least
-- this much; none if it is less at each of them. Among those of the most silence it is one whose
-- peer was never answered, or, if there is no such one, the one whose peer was answered first.
abbrev pub IsQuietest : StandingsValue → ℕ → ℕ → Option ℕ → Type 0
IsQuietest standings places least None =
    (place : ℕ) → place < places → quiet_at standings place < least
IsQuietest standings places least (Some found) =
    (found < places) × (least ≤ quiet_at standings found)
    × ((place : ℕ) → place < places → IsNoQuieter standings place found)

-- Whether the time of the time-out begins anew after this. If peers may connect, a transmission
-- that the station does not answer counts only if it has answered one at that place before.
abbrev pub moves_time_out : Bool → StandingsValue → Handled → Bool
moves_time_out listens standings (Answered place) = true
moves_time_out listens standings (Unanswered place) =
    if listens then is_known standings place else true
moves_time_out listens standings Silence = true

-- The time of all silences, in nanoseconds, after this event of a wait: a time-out adds this time.
-- The sum stops at 2^128 - 1.
abbrev pub counted_after : ℕ → Awaited → ℕ → ℕ
counted_after time TimeOut silence = min (silence + time) (2 ^ 128 - 1)
counted_after time awaited silence = silence

-- What a time-out adds to the time of all silences: its length, or nothing if it has passed at
-- once, as the flag says.
abbrev pub silence_of : Bool → ℕ → ℕ
silence_of is_over whole = if is_over then 0 else whole

-- The time of the time-out after this.
abbrev pub time_after : Bool → Time → Time
time_after true time = Anew
time_after false time = time

-- The standings after this.
abbrev pub standings_after : StandingsValue → Handled → StandingsValue
standings_after standings (Answered place) =
    after_answer standings place (slice_get standings.places place)
standings_after standings (Unanswered place) = standings
standings_after standings Silence = standings
