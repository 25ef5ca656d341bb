-- What happened to a station while it was attended, in order.
use Rattle.std.specs.Prelude.{⊤, ◌≢◌, ℕ, Bool, true, false, List, [], ◌∷◌, nat_eq, if◌then◌else◌}
use Rattle.std.specs.Prelude.{Option, None, Some}
use Rattle.std.specs.List.{AllByRecursion, flat_map}
use Rattle.std.specs.declared.net.socket_addr.SocketAddr.{SocketAddr}
use Rattle.bsc_frame.specs.declared.message.Message.{Message}
use Rattle.bsc_frame.specs.Wire.{wire}
use Rattle.bsc_carrier.specs.declared.error.CarrierError.{CarrierError}
use Rattle.bsc_connections.specs.declared.monitor.Refusal.{Refusal}

-- One thing that happened. The address of a peer is there if it is known.
pub data Happening : Type 0 where
  -- A transmission of these octets was heard on the connection at this place.
  WasHeard : (place : ℕ) (octets : List ℕ) → Happening
  -- A transmission of these octets arrived on the connection at this place, and was not heard.
  WasIgnored : (place : ℕ) (octets : List ℕ) → Happening
  -- A time-out passed.
  WasSilent : Happening
  -- A transmission of these octets was sent on every open connection.
  WasSent : (octets : List ℕ) → Happening
  -- A transmission of these octets was not sent, because it would have been late.
  WasWithheld : (octets : List ℕ) → Happening
  -- This peer took the connection at this place, which was closed, or is replaced as the flag says.
  HasJoined : (place : ℕ) (peer : Option SocketAddr) (replaces : Bool) → Happening
  -- This peer was refused a connection, for this reason.
  WasRefused : (peer : Option SocketAddr) (why : Refusal) → Happening
  -- The connection of this peer at this place is closed: by this fault, or by the peer between
  -- transmissions.
  HasClosed : (place : ℕ) (peer : Option SocketAddr) (why : Option CarrierError) → Happening
  -- The station was asked to end.
  WasStopped : Happening

-- What becomes of these octets, which the station sends: they are sent if they are in time, as the
-- flag says, and else withheld.
abbrev pub sent_if_in_time : Bool → List ℕ → Happening
sent_if_in_time true octets = WasSent octets
sent_if_in_time false octets = WasWithheld octets

-- The history of what a station sends, in time or not: one entry, or none if it sends nothing.
abbrev pub sent_where_some : Bool → Option Message → List Happening
sent_where_some in_time None = []
sent_where_some in_time (Some m) = sent_if_in_time in_time (wire m) ∷ []

-- The transmission of these octets, if both places are the same.
abbrev pub if_same_place : ℕ → ℕ → List ℕ → List (List ℕ)
if_same_place place at octets = if nat_eq at place then octets ∷ [] else []

-- The transmission that arrived at this place, if this entry is one: it was heard or ignored.
abbrev pub arrived_in : ℕ → Happening → List (List ℕ)
arrived_in place (WasHeard at octets) = if_same_place place at octets
arrived_in place (WasIgnored at octets) = if_same_place place at octets
arrived_in place _ = []

-- All transmissions that arrived at this place, in order.
abbrev pub arrived_at : ℕ → List Happening → List (List ℕ)
arrived_at place history = flat_map (arrived_in place) history

-- The transmission that was sent, if this entry is one.
abbrev pub sent_in : Happening → List (List ℕ)
sent_in (WasSent octets) = octets ∷ []
sent_in _ = []

-- All transmissions that were sent, in order.
abbrev pub all_sent : List Happening → List (List ℕ)
all_sent history = flat_map sent_in history

-- In this entry no peer took the connection at this place.
abbrev pub IsNoJoining : ℕ → Happening → Type 0
IsNoJoining place (HasJoined at peer replaces) = at ≢ place
IsNoJoining place _ = ⊤

-- No peer took the connection at this place.
abbrev pub NobodyJoins : ℕ → List Happening → Type 0
NobodyJoins place history = AllByRecursion (IsNoJoining place) history
