-- What a wait may return.
use Rattle.std.specs.Prelude.{◌≡◌, ◌<◌, ⊤, ℕ, Bool, true, false, List, Option, None, Some}
use Rattle.std.specs.Prelude.{option_map, if◌then◌else◌}
use Rattle.std.specs.Net.Socket.{socket_ip}
use Rattle.std.specs.declared.net.socket_addr.SocketAddr.{SocketAddr}
use Rattle.bsc_connections.specs.declared.awaited.Awaited.{Awaited}
use Rattle.bsc_connections.specs.declared.awaited.Awaited.TheVariants.{Octets, Newcomer, Gap}
use Rattle.bsc_connections.specs.declared.awaited.Awaited.TheVariants.{NotAccepted, NotAllowed}
use Rattle.bsc_connections.specs.declared.awaited.Awaited.TheVariants.{TimeOut, Stopped, Client}
use Rattle.bsc_connections.specs.declared.awaited.LiveError.{LiveError}
use Rattle.bsc_connections.specs.declared.awaited.LiveError.TheVariants.{Wait, Memory}
use Rattle.bsc_trust.specs.Lists.{listed}
use Rattle.bsc_trust.specs.Networks.{allows}
use Rattle.bsc_trust.specs.declared.networks.Networks.{Networks}
use Rattle.bsc_sockets.specs.Ready.{WasServed}
use Rattle.bsc_sockets.specs.declared.sockets.Peer.{Peer}

-- Whether a peer may connect: these networks allow its address.
abbrev pub may_connect : Networks → Peer → Bool
may_connect allowed peer = allows (listed allowed) (socket_ip peer.address)

-- Whether the newcomer may connect, if there is one.
abbrev pub newcomer_may : Networks → Option Peer → Option Bool
newcomer_may allowed newcomer = option_map (may_connect allowed) newcomer

-- The address of the newcomer, if there is one.
abbrev pub newcomer_address : Option Peer → Option SocketAddr
newcomer_address None = None
newcomer_address (Some peer) = Some peer.address

-- With these networks, this many places for connections, this newcomer if there is one, and these
-- places ready: octets only at a place that exists, is ready, and was served last, a newcomer only
-- if there is one that may connect, and one that may not only if there is such a one.
abbrev pub IsAnswer : Networks → ℕ → Option Peer → List ℕ → Awaited → Type 0
IsAnswer allowed places newcomer ready (Octets connection) =
    (connection < places) × WasServed ready connection
IsAnswer allowed places newcomer ready Newcomer = newcomer_may allowed newcomer ≡ Some true
IsAnswer allowed places newcomer ready NotAccepted = ⊤
IsAnswer allowed places newcomer ready NotAllowed = newcomer_may allowed newcomer ≡ Some false
IsAnswer allowed places newcomer ready (Gap connection) = ⊤
IsAnswer allowed places newcomer ready TimeOut = ⊤
IsAnswer allowed places newcomer ready Stopped = ⊤
IsAnswer allowed places newcomer ready Client = ⊤

-- The event of a peer that has connected.
abbrev pub peer_event : Networks → Peer → Awaited
peer_event allowed peer = if may_connect allowed peer then Newcomer else NotAllowed

-- The event of the listener, if there is one: that of the peer that has connected, if there is one,
-- else that the system cannot accept a peer, if that is new, as the flag says.
abbrev pub listener_event : Networks → Option Peer → Bool → Option Awaited
listener_event allowed (Some peer) newly_refused = Some (peer_event allowed peer)
listener_event allowed None true = Some NotAccepted
listener_event allowed None false = None

-- Why a wait failed: the system refused to wait or to tell the time, or memory was refused.
abbrev pub IsWaitError : LiveError → Type 0
IsWaitError Wait = ⊤
IsWaitError Memory = ⊤
IsWaitError _ = ⊥
