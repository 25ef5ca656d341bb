-- What a control station can tell of the premises of its line, by what happens to it.
use Rattle.std.specs.Prelude.{ℕ, Bool, List, Option, None, Some, if◌then◌else◌}
use Rattle.std.specs.Net.Socket.{socket_ip}
use Rattle.std.specs.declared.net.ip_addr.IpAddr.{IpAddr}
use Rattle.std.specs.declared.net.socket_addr.SocketAddr.{SocketAddr}
use Rattle.bsc_connections.specs.Histories.{Happening, WasHeard, WasSent, HasJoined, HasClosed}
use Rattle.bsc_connections.specs.Histories.{WasIgnored, WasSilent, WasWithheld}
use Rattle.bsc_control.specs.Control.{ControlValue, current}
use Rattle.bsc_control.specs.declared.task.Task.{Task}
use Rattle.bsc_control.specs.declared.task.Task.TheVariants.{AtRest}
use Rattle.bsc_frame.specs.Reading.{heard}
use Rattle.bsc_trust.specs.Connections.{connected_at}
use Rattle.bsc_trust.specs.Trust.{admits, after_closed, after_heard, after_ignored, after_joined}
use Rattle.bsc_trust.specs.Trust.{after_sent, after_silence, after_withheld, reason_told, told_of}
use Rattle.bsc_trust.specs.Trust.{told_of_sending, was_told}
use Rattle.bsc_trust.specs.declared.distrust.Distrust.{Distrust}
use Rattle.bsc_trust.specs.declared.trust.Trust.{Trust}
use Rattle.bsc_report.specs.Terminals.{moved_by}
use Rattle.bsc_report.specs.declared.terminal_news.TerminalNews.{TerminalNews}
use Rattle.bsc_monitor.specs.declared.trusting.Trusting.{Trusting}

-- The terminal with this number is called in every task that a call begins.
abbrev pub called_in : Task → ℕ → Option ℕ
called_in AtRest terminal = None
called_in _ terminal = Some terminal

-- The terminal that the control station polls, selects or sends to.
abbrev pub called_by : ControlValue → Option ℕ
called_by c = called_in c.task (current c)

abbrev pub trusting_of : Trust → Option ℕ → Trusting
trusting_of trust called = record { trust = trust; called = called }

-- Whether what arrived at this place is heard, by the terminal that is called.
abbrev pub is_admitted : Trust → Option ℕ → ℕ → List ℕ → Bool
is_admitted trust called place octets = admits trust called place (heard octets)

-- The address of a peer, if it is known.
abbrev pub address_of : Option SocketAddr → Option IpAddr
address_of None = None
address_of (Some peer) = Some (socket_ip peer)

-- What is known after this, which happened while this terminal was called, at this time.
abbrev pub trust_after : Trust → Option ℕ → Happening → ℕ → Trust
trust_after t called (WasHeard place octets) now = after_heard t called place (heard octets) now
trust_after t called (WasIgnored place octets) now = after_ignored t called place
trust_after t called (WasSent octets) now = after_sent t now
trust_after t called (WasWithheld octets) now = after_withheld t now
trust_after t called WasSilent now = after_silence t
trust_after t called (HasJoined place peer replaces) now =
    after_joined t place (address_of peer)
trust_after t called (HasClosed place peer why) now = after_closed t place
trust_after t called _ now = t

-- What is told of something on the connection at this place that was ignored: why, unless that was
-- told of another on it.
abbrev pub ignoring_told : Trust → Option ℕ → ℕ → Option Distrust
ignoring_told t called place =
    if was_told t place then None else Some (reason_told t called place)

-- What is told of this: why it was ignored, if it is the first on its connection, or that it was
-- the first late answer or late reply, and nothing spoke against trust before.
abbrev pub distrust_told : Trust → Option ℕ → Happening → ℕ → Option Distrust
distrust_told t called (WasHeard place octets) now = told_of t (heard octets) now
distrust_told t called (WasIgnored place octets) now = ignoring_told t called place
distrust_told t called (WasSent octets) now = told_of_sending t now
distrust_told t called _ now = None

-- The place of the connection of which this tells.
abbrev pub place_in : Happening → Option ℕ
place_in (WasHeard place octets) = Some place
place_in (HasJoined place peer replaces) = Some place
place_in (HasClosed place peer why) = Some place
place_in _ = None

-- The terminal that is known to answer on the connection at this place.
abbrev pub owner_at : Trust → ℕ → Option ℕ
owner_at t place = (connected_at t.connections place).owner

-- The terminal that is known to answer at this place, if there is one.
abbrev pub owner_if : Trust → Option ℕ → Option ℕ
owner_if t None = None
owner_if t (Some place) = owner_at t place

-- What is told of the connection at this place, if there is one: that a terminal is known now to
-- answer on it, or that the one which did before has left.
abbrev pub moved_after : Option ℕ → Trust → Option ℕ → Option TerminalNews
moved_after before t None = None
moved_after before t (Some place) = moved_by place before (owner_at t place)

abbrev pub moved_in : Trust → Trust → Happening → Option TerminalNews
moved_in old new happening =
    moved_after (owner_if old (place_in happening)) new (place_in happening)
