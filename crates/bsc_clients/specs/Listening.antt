-- Where a station listens for programs, and why it cannot, or a program cannot connect.
use Rattle.std.specs.Prelude.{⊤, ◌≡◌, Bool, false, Option, Some, None}
use Rattle.std.specs.Net.Addr.{IsLoopbackV4, IsLoopbackV6, MatchIp}
use Rattle.std.specs.Net.Socket.{socket_ip}
use Rattle.std.specs.declared.net.socket_addr.SocketAddr.{SocketAddr}
use Rattle.std.specs.declared.io.ErrorKind.{ErrorKind}
use Rattle.std.specs.declared.io.ErrorKind.TheVariants as kind
use Rattle.bsc_clients.specs.declared.error.ClientsError.{ClientsError}
use Rattle.bsc_clients.specs.declared.error.ClientsError.TheVariants.{Address, NotLoopback, InUse}
use Rattle.bsc_clients.specs.declared.error.ClientsError.TheVariants.{OtherFile, CannotListen}
use Rattle.bsc_clients.specs.declared.error.ClientsError.TheVariants.{NobodyThere, Sockets, Memory}
use Rattle.bsc_clients.specs.declared.error.ClientsError.TheVariants.{NotPermitted, NotHere}
use Rattle.bsc_clients.specs.declared.error.ClientsError.TheVariants.{NoFolder, TooLong}
use Rattle.bsc_clients.specs.declared.served_at.ServedAt.{ServedAt}
use Rattle.bsc_clients.specs.declared.served_at.ServedAt.TheVariants as at

-- The address is a loopback address.
abbrev pub IsLocal : SocketAddr → Type 0
IsLocal host = MatchIp (socket_ip host) IsLoopbackV4 IsLoopbackV6

-- Whether anyone may reach a station there. A path is for the user of the station.
abbrev pub is_for_anyone : ServedAt → Bool
is_for_anyone (at.Address address anyone) = anyone
is_for_anyone (at.Path path) = false

-- Why an address cannot be bound, by the kind of the error.
abbrev pub bind_error : ErrorKind → ClientsError
bind_error kind.AddrInUse = InUse
bind_error kind.PermissionDenied = NotPermitted
bind_error kind.AddrNotAvailable = NotHere
bind_error _ = CannotListen

-- Why nothing is made at or beside a path, by the kind of the error.
abbrev pub path_error : ErrorKind → ClientsError
path_error kind.PermissionDenied = NotPermitted
path_error kind.NotFound = NoFolder
path_error kind.InvalidInput = TooLong
path_error _ = CannotListen

-- Why a socket does not get its name at a path, by the kind of the error.
abbrev pub link_error : ErrorKind → ClientsError
link_error kind.AlreadyExists = InUse
link_error kind.PermissionDenied = NotPermitted
link_error _ = CannotListen

-- Why a socket file is not removed, by the kind of the error with which connecting to it fails; if
-- that is refused, nobody listens there any more, and it may be gone by then.
abbrev pub kept_by : ErrorKind → Option ClientsError
kept_by kind.ConnectionRefused = None
kept_by kind.NotFound = None
kept_by kind.WouldBlock = Some InUse
kept_by kind.PermissionDenied = Some NotPermitted
kept_by _ = Some CannotListen

-- The text is not an address, or memory is refused.
abbrev pub IsNameError : ClientsError → Type 0
IsNameError Address = ⊤
IsNameError Memory = ⊤
IsNameError _ = ⊥

-- None of some addresses can be bound, or there are none.
abbrev pub IsBindError : ClientsError → Type 0
IsBindError Address = ⊤
IsBindError InUse = ⊤
IsBindError NotPermitted = ⊤
IsBindError NotHere = ⊤
IsBindError CannotListen = ⊤
IsBindError _ = ⊥

-- An address cannot be bound: one that is not a loopback address only if not anyone may reach the
-- station.
abbrev pub IsAddressError : Bool → ClientsError → Type 0
IsAddressError anyone NotLoopback = anyone ≡ false
IsAddressError anyone Address = ⊤
IsAddressError anyone InUse = ⊤
IsAddressError anyone NotPermitted = ⊤
IsAddressError anyone NotHere = ⊤
IsAddressError anyone CannotListen = ⊤
IsAddressError anyone Memory = ⊤
IsAddressError anyone _ = ⊥

-- A path cannot be bound, or memory is refused.
abbrev pub IsPathError : ClientsError → Type 0
IsPathError InUse = ⊤
IsPathError OtherFile = ⊤
IsPathError NotPermitted = ⊤
IsPathError NoFolder = ⊤
IsPathError TooLong = ⊤
IsPathError CannotListen = ⊤
IsPathError Memory = ⊤
IsPathError _ = ⊥

-- A station cannot listen there.
abbrev pub IsListenError : ServedAt → ClientsError → Type 0
IsListenError place Sockets = ⊤
IsListenError place Memory = ⊤
IsListenError (at.Address address anyone) error = IsAddressError anyone error
IsListenError (at.Path path) error = IsPathError error

-- No station answers at some addresses.
abbrev pub IsConnectError : ClientsError → Type 0
IsConnectError NobodyThere = ⊤
IsConnectError _ = ⊥

-- Why a program cannot connect at a path, by the kind of the error.
abbrev pub connect_error : ErrorKind → ClientsError
connect_error kind.PermissionDenied = NotPermitted
connect_error _ = NobodyThere

-- A program cannot connect there: that it is not permitted is told of paths.
abbrev pub IsReachError : ServedAt → ClientsError → Type 0
IsReachError (at.Address address anyone) Address = ⊤
IsReachError (at.Path path) NotPermitted = ⊤
IsReachError place NobodyThere = ⊤
IsReachError place Sockets = ⊤
IsReachError place Memory = ⊤
IsReachError place _ = ⊥
