-- A fault that a part may have is one that the whole may have.
use Rattle.std.proofs.Common.{◌≡◌, Bool, true, false}
use Rattle.bsc_sockets.specs.declared.error.SocketsError.{SocketsError}
use Rattle.bsc_sockets.specs.declared.error.SocketsError.TheVariants as fault
use Rattle.bsc_sockets.specs.Listening.{IsConnectError, IsDenied, IsListenError, IsPeerError}

pub listen_by_peer : (watches : Bool) (error : SocketsError) → IsPeerError error
    → IsListenError watches error
listen_by_peer watches fault.Address never = absurd never
listen_by_peer watches fault.AddressInUse never = absurd never
listen_by_peer watches fault.NotPermitted never = absurd never
listen_by_peer watches fault.NotHere never = absurd never
listen_by_peer watches fault.CannotListen never = absurd never
listen_by_peer watches fault.NobodyThere never = absurd never
listen_by_peer watches fault.NobodyConnected is = tt
listen_by_peer watches fault.Stopped is = tt
listen_by_peer watches fault.CannotWatchInput never = absurd never
listen_by_peer watches fault.Sockets is = tt
listen_by_peer watches fault.Memory is = tt

pub connect_by_denial : (watches : Bool) (error : SocketsError) → IsDenied error
    → IsConnectError watches error
connect_by_denial watches fault.Address never = absurd never
connect_by_denial watches fault.AddressInUse never = absurd never
connect_by_denial watches fault.NotPermitted never = absurd never
connect_by_denial watches fault.NotHere never = absurd never
connect_by_denial watches fault.CannotListen never = absurd never
connect_by_denial watches fault.NobodyThere never = absurd never
connect_by_denial watches fault.NobodyConnected never = absurd never
connect_by_denial watches fault.Stopped never = absurd never
connect_by_denial watches fault.CannotWatchInput never = absurd never
connect_by_denial watches fault.Sockets is = tt
connect_by_denial watches fault.Memory is = tt

-- What is not watched cannot fail to be watched.
pub connect_unwatched : (watches : Bool) (error : SocketsError) → IsConnectError false error
    → IsConnectError watches error
connect_unwatched watches fault.Address never = absurd never
connect_unwatched watches fault.AddressInUse never = absurd never
connect_unwatched watches fault.NotPermitted never = absurd never
connect_unwatched watches fault.NotHere never = absurd never
connect_unwatched watches fault.CannotListen never = absurd never
connect_unwatched watches fault.NobodyThere is = tt
connect_unwatched watches fault.NobodyConnected never = absurd never
connect_unwatched watches fault.Stopped never = absurd never
connect_unwatched watches fault.CannotWatchInput is =
    let clash : false ≡ true = is in absurd cc
connect_unwatched watches fault.Sockets is = tt
connect_unwatched watches fault.Memory is = tt
