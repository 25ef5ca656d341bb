-- What happens to a control station, and what it can tell of it.
use Rattle.std.specs.Prelude.{◌≡◌, ℕ, ◌+◌, ◌<◌, ◌≤◌, ◌==◌, Bool, true, false, not, ◌&&◌}
use Rattle.std.specs.Prelude.{if◌then◌else◌, List, [], ◌∷◌, Option, None, Some}
use Rattle.std.specs.List.{list_any}
use Rattle.std.specs.declared.net.ip_addr.IpAddr.{IpAddr}
use Rattle.bsc_carrier.specs.declared.limits.TheConstants.{MAX_CONNECTIONS}
use Rattle.bsc_frame.specs.declared.message.Heard.{Heard}
use Rattle.bsc_trust.specs.declared.terminal_peers.TerminalPeers.{TerminalPeers}
use Rattle.bsc_trust.specs.declared.trust.Trust.{Trust}
use Rattle.bsc_trust.specs.Answers.{is_noise, is_timed}
use Rattle.bsc_trust.specs.Connections.{connected_at}
use Rattle.bsc_trust.specs.Trust.{new_trust, admits, after_joined, after_closed, after_sent}
use Rattle.bsc_trust.specs.Trust.{after_heard, after_ignored, after_silence, after_withheld}
use Rattle.bsc_trust.specs.Trust.{time_since, time_taken}

-- What happens to a control station: it sends something at a time; it withholds something at a
-- time, since that would have been late; a time-out passes in silence; a transmission arrives,
-- while this terminal is called, if one is, on the connection at a place, with a content and at a
-- time; a connection begins at a place, with this peer; or the connection at a place is closed.
pub data Event : Type 0 where
  Sends : ℕ → Event
  Withholds : ℕ → Event
  TimesOut : Event
  Arrives : Option ℕ → ℕ → Heard → ℕ → Event
  Joins : ℕ → Option IpAddr → Event
  Closes : ℕ → Event

-- What is known after an event. What arrives is heard if it is admitted, and else ignored.
abbrev pub after : Trust → Event → Trust
after t (Sends now) = after_sent t now
after t (Withholds now) = after_withheld t now
after t TimesOut = after_silence t
after t (Arrives called place heard now) =
    if admits t called place heard then after_heard t called place heard now
    else after_ignored t called place
after t (Joins place peer) = after_joined t place peer
after t (Closes place) = after_closed t place

-- What is known after some events.
abbrev pub after_all : Trust → List Event → Trust
after_all t [] = t
after_all t (event ∷ events) = after_all (after t event) events

-- ---- one answer after each sending

-- Whether an event is an answer: something arrives that is admitted and not noise.
abbrev pub is_answer : Trust → Event → Bool
is_answer t (Sends now) = false
is_answer t (Withholds now) = false
is_answer t TimesOut = false
is_answer t (Arrives called place heard now) = not (is_noise heard) && admits t called place heard
is_answer t (Joins place peer) = false
is_answer t (Closes place) = false

-- The number of answers among some events.
abbrev pub answers_among : Trust → List Event → ℕ
answers_among t [] = 0
answers_among t (event ∷ events) =
    (if is_answer t event then 1 else 0) + answers_among (after t event) events

-- Whether an event is a sending. What is withheld counts as sent and lost.
abbrev pub is_sending : Event → Bool
is_sending (Sends now) = true
is_sending (Withholds now) = true
is_sending TimesOut = false
is_sending (Arrives called place heard now) = false
is_sending (Joins place peer) = false
is_sending (Closes place) = false

-- The number of sendings among some events.
abbrev pub sendings_among : List Event → ℕ
sendings_among [] = 0
sendings_among (event ∷ events) =
    (if is_sending event then 1 else 0) + sendings_among events

-- ---- one connection of each terminal, and one terminal of each connection

-- An event is an answer for this terminal, which is called, on the connection at this place.
abbrev pub AnswersFor : Trust → Event → ℕ → ℕ → Type 0
AnswersFor t (Sends now) terminal from = ⊥
AnswersFor t (Withholds now) terminal from = ⊥
AnswersFor t TimesOut terminal from = ⊥
AnswersFor t (Arrives called place heard now) terminal from =
    (called ≡ Some terminal) × (place ≡ from)
    × (is_noise heard ≡ false) × (admits t called place heard ≡ true)
AnswersFor t (Joins place peer) terminal from = ⊥
AnswersFor t (Closes place) terminal from = ⊥

-- Whether an event ends the connection at this place: it is closed, or another one begins there.
abbrev pub ends : ℕ → Event → Bool
ends here (Sends now) = false
ends here (Withholds now) = false
ends here TimesOut = false
ends here (Arrives called place heard now) = false
ends here (Joins place peer) = place == here
ends here (Closes place) = place == here

-- From the beginning of a control station whose terminals do not all answer on one connection: some
-- events, an answer for a terminal on a connection, further events that do not end this connection,
-- and an answer for a terminal on a connection, which may be the same or others.
pub record TwoAnswers (time_out : ℕ) (peers : TerminalPeers) (before : List Event) (first : Event)
    (between : List Event) (second : Event) (terminal place later_terminal later_place : ℕ)
    : Type 0 where
  pub is_place : place < MAX_CONNECTIONS
  pub answers : AnswersFor (after_all (new_trust false time_out peers) before) first terminal place
  pub stays : list_any (ends place) between ≡ false
  pub answers_later : AnswersFor
      (after_all (after (after_all (new_trust false time_out peers) before) first) between) second
      later_terminal later_place

-- ---- nothing is heard of a connection after something arrived on it out of turn

-- Something arrives out of turn on the connection at this place: it is not heard, and no terminal
-- owns the connection.
abbrev pub ArrivesOutOfTurn : Trust → Event → ℕ → Type 0
ArrivesOutOfTurn t (Sends now) from = ⊥
ArrivesOutOfTurn t (Withholds now) from = ⊥
ArrivesOutOfTurn t TimesOut from = ⊥
ArrivesOutOfTurn t (Arrives called place heard now) from =
    (place ≡ from) × (admits t called place heard ≡ false)
    × ((connected_at t.connections place).owner ≡ None)
ArrivesOutOfTurn t (Joins place peer) from = ⊥
ArrivesOutOfTurn t (Closes place) from = ⊥

-- An event is an answer on the connection at this place.
abbrev pub AnswersAt : Trust → Event → ℕ → Type 0
AnswersAt t (Sends now) from = ⊥
AnswersAt t (Withholds now) from = ⊥
AnswersAt t TimesOut from = ⊥
AnswersAt t (Arrives called place heard now) from =
    (place ≡ from) × (is_noise heard ≡ false) × (admits t called place heard ≡ true)
AnswersAt t (Joins place peer) from = ⊥
AnswersAt t (Closes place) from = ⊥

-- From the beginning of a control station whose terminals do not all answer on one connection: some
-- events, something that arrives out of turn on a connection, further events that do not end this
-- connection, and an answer on it.
pub record AnswersAfterwards (time_out : ℕ) (peers : TerminalPeers) (before : List Event)
    (first : Event) (between : List Event) (second : Event) (place : ℕ) : Type 0 where
  pub is_place : place < MAX_CONNECTIONS
  pub out_of_turn :
      ArrivesOutOfTurn (after_all (new_trust false time_out peers) before) first place
  pub stays : list_any (ends place) between ≡ false
  pub answers : AnswersAt
      (after_all (after (after_all (new_trust false time_out peers) before) first) between) second
      place

-- ---- what trust means

-- Nothing in an event speaks against trust: if something is sent in reply to an answer, no more
-- than the time-out has passed since; if something arrives it is admitted, and if it is not noise
-- and its time counts, it took no longer than the time-out.
abbrev pub IsFine : Trust → Event → Type 0
IsFine t (Sends now) = time_since t.heard_at now ≤ t.time_out
IsFine t (Withholds now) = Unit {0}
IsFine t TimesOut = Unit {0}
IsFine t (Arrives called place heard now) =
    (admits t called place heard ≡ true)
    × (is_noise heard ≡ false → is_timed heard (time_taken t now) t.time_out ≡ true
    → time_taken t now ≤ t.time_out)
IsFine t (Joins place peer) = Unit {0}
IsFine t (Closes place) = Unit {0}

-- Nothing in any of these events does.
abbrev pub AreFine : Trust → List Event → Type 0
AreFine t [] = Unit {0}
AreFine t (event ∷ events) = IsFine t event × AreFine (after t event) events
