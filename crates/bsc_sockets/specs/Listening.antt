-- Why a station cannot listen at an address, or get its connections.
use Rattle.std.specs.Prelude.{⊤, ◌≡◌, Bool, true, false, ℕ, List}
use Rattle.bsc_sockets.specs.Ready.{without_place}
use Rattle.bsc_sockets.specs.declared.error.SocketsError.{SocketsError}
use Rattle.bsc_sockets.specs.declared.error.SocketsError.TheVariants.{Address, AddressInUse}
use Rattle.bsc_sockets.specs.declared.error.SocketsError.TheVariants.{NotPermitted, NotHere}
use Rattle.bsc_sockets.specs.declared.error.SocketsError.TheVariants.{CannotListen, Memory}
use Rattle.bsc_sockets.specs.declared.error.SocketsError.TheVariants.{CannotWatchInput}
use Rattle.bsc_sockets.specs.declared.error.SocketsError.TheVariants.{NobodyConnected, NobodyThere}
use Rattle.bsc_sockets.specs.declared.error.SocketsError.TheVariants.{Sockets, Stopped}
use Rattle.bsc_sockets.specs.declared.newcomers.NotTaken.{NotTaken}
use Rattle.bsc_sockets.specs.declared.newcomers.NotTaken.TheVariants.{Nobody, Gone, Refused}
use Rattle.bsc_connections.specs.declared.awaited.LiveError.{LiveError}
use Rattle.bsc_connections.specs.declared.awaited.LiveError.TheVariants as live
use Rattle.std.specs.declared.io.ErrorKind.{ErrorKind}
use Rattle.std.specs.declared.io.ErrorKind.TheVariants as kind

-- The text is not an address, or none of its addresses can be bound.
abbrev pub IsBindError : SocketsError → Type 0
IsBindError Address = ⊤
IsBindError AddressInUse = ⊤
IsBindError NotPermitted = ⊤
IsBindError NotHere = ⊤
IsBindError CannotListen = ⊤
IsBindError _ = ⊥

-- Why an address cannot be bound, by the kind of the error.
abbrev pub bind_error : ErrorKind → SocketsError
bind_error kind.AddrInUse = AddressInUse
bind_error kind.PermissionDenied = NotPermitted
bind_error kind.AddrNotAvailable = NotHere
bind_error _ = CannotListen

-- What it means that a peer cannot be accepted, by the kind of the error.
abbrev pub not_taken_by : ErrorKind → NotTaken
not_taken_by kind.WouldBlock = Nobody
not_taken_by kind.ConnectionAborted = Gone
not_taken_by kind.Interrupted = Gone
not_taken_by _ = Refused

-- Whether the system could not accept a peer.
abbrev pub is_refused : NotTaken → Bool
is_refused Nobody = false
is_refused Gone = false
is_refused Refused = true

-- The places that are ready after no peer could be accepted, where the listener has this place. It
-- is ready no more if no peer is waiting.
abbrev pub sought_after : NotTaken → ℕ → List ℕ → List ℕ
sought_after Nobody listener ready = without_place ready listener
sought_after Gone listener ready = ready
sought_after Refused listener ready = ready

-- No peer was taken. If the station listens, as the flag says, one could not be accepted, and what
-- follows from why is recorded: which places are ready, and whether the system refuses. Else the
-- place of the listener is not ready.
abbrev pub TakesNobody : Bool → ℕ → List ℕ → Bool → List ℕ → Bool → Type 0
TakesNobody true listener ready refuses after refuses_after =
    (why : NotTaken) × (after ≡ sought_after why listener ready)
    × (refuses_after ≡ is_refused why)
TakesNobody false listener ready refuses after refuses_after =
    (after ≡ without_place ready listener) × (refuses_after ≡ refuses)

-- Why the next peer is not taken, if waiting for it fails with this.
abbrev pub peer_error : LiveError → SocketsError
peer_error live.Memory = Memory
peer_error _ = Sockets

-- The system refuses what a connection needs, or memory is refused.
abbrev pub IsDenied : SocketsError → Type 0
IsDenied Sockets = ⊤
IsDenied Memory = ⊤
IsDenied _ = ⊥

-- The same, or the system does not report the descriptor that asks the station to end, if there is
-- one, as the flag says.
abbrev pub IsUnwatched : Bool → SocketsError → Type 0
IsUnwatched watches CannotWatchInput = watches ≡ true
IsUnwatched watches error = IsDenied error

-- Why no connection is made to any of some addresses.
abbrev pub IsConnectError : Bool → SocketsError → Type 0
IsConnectError watches NobodyThere = ⊤
IsConnectError watches error = IsUnwatched watches error

-- Why no connection is made to the addresses that a text names.
abbrev pub IsAddressError : Bool → SocketsError → Type 0
IsAddressError watches Address = ⊤
IsAddressError watches error = IsConnectError watches error

-- Why the next peer is not taken.
abbrev pub IsPeerError : SocketsError → Type 0
IsPeerError NobodyConnected = ⊤
IsPeerError Stopped = ⊤
IsPeerError error = IsDenied error

-- Why the peers that are waited for are not all taken.
abbrev pub IsListenError : Bool → SocketsError → Type 0
IsListenError watches NobodyConnected = ⊤
IsListenError watches Stopped = ⊤
IsListenError watches error = IsUnwatched watches error
