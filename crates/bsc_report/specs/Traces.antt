-- The lines of a trace.
use Rattle.std.specs.Prelude.{◌≡◌, ℕ, Bool, true, false, List, [], ◌++◌, codes, if◌then◌else◌}
use Rattle.std.specs.Prelude.{Option, None, Some}
use Rattle.std.specs.Fmt.{decimal}
use Rattle.std.specs.Io.KnownBytes.{Appends}
use Rattle.std.specs.Net.Text.{socket_text}
use Rattle.std.specs.declared.net.socket_addr.SocketAddr.{SocketAddr}
use Rattle.bsc_connections.specs.Histories.{Happening, WasHeard, WasIgnored, WasSilent, WasSent}
use Rattle.bsc_connections.specs.Histories.{WasStopped, WasWithheld, HasJoined, HasClosed}
use Rattle.bsc_connections.specs.Histories.{WasRefused}
use Rattle.bsc_connections.specs.declared.monitor.Refusal.{Refusal}
use Rattle.bsc_connections.specs.declared.monitor.Refusal.TheVariants as refusal
use Rattle.bsc_bid.specs.declared.speaker.Speaker.{Speaker}
use Rattle.bsc_bid.specs.declared.speaker.Speaker.TheVariants.{Control, Terminal}
use Rattle.bsc_carrier.specs.declared.error.CarrierError.{CarrierError}
use Rattle.bsc_carrier.specs.declared.error.CarrierError.TheVariants as carrier
use Rattle.bsc_carrier.specs.declared.fault.DeviceFault.{DeviceFault}
use Rattle.bsc_carrier.specs.declared.fault.DeviceFault.TheVariants as fault
use Rattle.bsc_frame.specs.Reading.{heard}
use Rattle.bsc_text.specs.Traces.{silence_line, time_shown, told_line, transmission_line}
use Rattle.bsc_text.specs.Traces.{who_shown}
use Rattle.bsc_text.specs.declared.trace.Fate.TheVariants as fate
use Rattle.bsc_text.specs.declared.trace.Who.{Who}
use Rattle.bsc_text.specs.declared.trace.Who.TheVariants.{Station, Connection}
use Rattle.bsc_trust.specs.Reasons.{reason_text}
use Rattle.bsc_trust.specs.declared.distrust.Distrust.{Distrust}

-- The sender of what the first station heard on the connection at this place.
abbrev pub heard_from : Speaker → ℕ → Who
heard_from Control place = Connection place
heard_from (Terminal number) place = Station Control

-- The line for a station that is asked to end.
abbrev pub stopped_line : ℕ → List ℕ
stopped_line time = told_line time (codes "asked to end")

-- The address of a peer, if it is known.
abbrev pub origin_shown : Option SocketAddr → List ℕ
origin_shown None = []
origin_shown (Some peer) = codes " from " ++ socket_text peer

-- The name of a connection, with the address of its peer.
abbrev pub connection_shown : ℕ → Option SocketAddr → List ℕ
connection_shown place peer = who_shown (Connection place) ++ origin_shown peer

-- The end of the line for a peer that took a connection.
abbrev pub joined_shown : Bool → List ℕ
joined_shown true = codes " joined in place of one that did not answer\n"
joined_shown false = codes " joined\n"

-- The line for a peer that took a connection.
abbrev pub joined_line : ℕ → Option SocketAddr → Bool → List ℕ
joined_line place peer replaces = connection_shown place peer ++ joined_shown replaces

-- The line without a trace for something that was withheld.
abbrev pub withheld_line : List ℕ
withheld_line = codes "a transmission was withheld: it would have been late\n"

-- A peer that has no connection.
abbrev pub peer_shown : Option SocketAddr → List ℕ
peer_shown None = codes "a peer"
peer_shown (Some peer) = socket_text peer

-- Why a peer has no connection.
abbrev pub refusal_shown : Refusal → List ℕ
refusal_shown refusal.NoPlace = codes "every place is taken"
refusal_shown refusal.NotAccepted = codes "the system cannot accept it yet"
refusal_shown refusal.NotAllowed = codes "its address is not allowed"

-- The line for a peer that has no connection.
abbrev pub refused_line : Option SocketAddr → Refusal → List ℕ
refused_line peer why =
    codes "refused " ++ peer_shown peer ++ codes ": " ++ refusal_shown why ++ codes "\n"

-- Why a device failed.
abbrev pub fault_shown : DeviceFault → List ℕ
fault_shown fault.Reset = codes "connection reset by peer"
fault_shown fault.Aborted = codes "connection aborted"
fault_shown fault.BrokenPipe = codes "broken pipe"
fault_shown fault.TimedOut = codes "timed out"
fault_shown fault.Unreachable = codes "the peer cannot be reached"
fault_shown fault.Other = codes "a read or a write failed"

-- Why a connection is closed by an error.
abbrev pub error_shown : CarrierError → List ℕ
error_shown carrier.Length = codes "the length of a record is wrong"
error_shown carrier.Short = codes "the input ended within a record"
error_shown (carrier.Device why) = fault_shown why
error_shown carrier.Unequal = codes "two far ends gave different octets"

-- The end of the line for a connection that is closed: with the error, or none if its peer closed
-- it between transmissions.
abbrev pub closed_shown : Option CarrierError → List ℕ
closed_shown None = codes " closed\n"
closed_shown (Some why) = codes " closed: " ++ error_shown why ++ codes "\n"

-- The line for a connection that is closed.
abbrev pub closed_line : ℕ → Option SocketAddr → Option CarrierError → List ℕ
closed_line place peer why = connection_shown place peer ++ closed_shown why

-- The line without a trace is written for a peer that took a connection or was refused one, for a
-- connection that is closed, or for something that was withheld. Other events have none.
abbrev pub ShowsChange : Happening → Option (List ℕ) → Option (List ℕ) → Type 0
ShowsChange (HasJoined place peer replaces) old new =
    Appends old new (joined_line place peer replaces)
ShowsChange (WasWithheld octets) old new = Appends old new withheld_line
ShowsChange (WasRefused peer why) old new = Appends old new (refused_line peer why)
ShowsChange (HasClosed place peer why) old new = Appends old new (closed_line place peer why)
ShowsChange happening old new = new ≡ old

-- The line for what happened to this station was written, with the time. That a program has to be
-- served is nothing of the line, and has none.
abbrev pub IsTraced : Happening → ℕ → Speaker → Option (List ℕ) → Option (List ℕ) → Type 0
IsTraced (WasHeard place octets) time me old new =
    Appends old new
    (transmission_line time (heard_from me place) fate.Heard None (heard octets) octets)
IsTraced (WasIgnored place octets) time me old new =
    Appends old new
    (transmission_line time (heard_from me place) fate.Ignored None (heard octets) octets)
IsTraced (WasSent octets) time me old new =
    Appends old new (transmission_line time (Station me) fate.Sent None (heard octets) octets)
IsTraced (WasWithheld octets) time me old new =
    Appends old new (transmission_line time (Station me) fate.Withheld None (heard octets) octets)
IsTraced WasSilent time me old new = Appends old new (silence_line time)
IsTraced WasStopped time me old new = Appends old new (stopped_line time)
IsTraced (HasJoined place peer replaces) time me old new =
    Appends old new (time_shown time ++ joined_line place peer replaces)
IsTraced (WasRefused peer why) time me old new =
    Appends old new (time_shown time ++ refused_line peer why)
IsTraced (HasClosed place peer why) time me old new =
    Appends old new (time_shown time ++ closed_line place peer why)

-- The start of a line that is printed while a station begins: a trace has the time 0.
abbrev pub start_shown : Bool → List ℕ
start_shown trace = if trace then time_shown 0 else []

-- Peers can connect at this address.
abbrev pub listening_line : SocketAddr → List ℕ
listening_line address = codes "listening at " ++ socket_text address ++ codes "\n"

-- Programs can reach the station at this address.
abbrev pub serving_line : SocketAddr → List ℕ
serving_line address = codes "serving programs at " ++ socket_text address ++ codes "\n"

-- A peer was turned away, since its address is not allowed.
abbrev pub not_allowed_line : SocketAddr → List ℕ
not_allowed_line peer =
    codes "refused " ++ socket_text peer ++ codes ": its address is not allowed\n"

-- How many terminals have connected.
abbrev pub connected_shown : ℕ → List ℕ
connected_shown connected = codes "waiting for terminals: " ++ decimal connected

-- How many are wanted.
abbrev pub wanted_shown : ℕ → List ℕ
wanted_shown wanted = codes " of " ++ decimal wanted ++ codes " connected\n"

-- How many terminals have connected of those that are wanted.
abbrev pub waiting_line : ℕ → ℕ → List ℕ
waiting_line connected wanted = connected_shown connected ++ wanted_shown wanted

-- A terminal waits for the control station.
abbrev pub waiting_for_control : List ℕ
waiting_for_control = codes "waiting for the control station\n"

-- Why the line is not trusted.
abbrev pub distrust_line : Distrust → List ℕ
distrust_line why = codes "not trusted: " ++ reason_text why ++ codes "\n"
