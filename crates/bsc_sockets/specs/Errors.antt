-- The reasons why connections could not be made, in words.
use Rattle.std.specs.Prelude.{ℕ, List, codes}
use Rattle.bsc_sockets.specs.declared.error.SocketsError.{SocketsError}
use Rattle.bsc_sockets.specs.declared.error.SocketsError.TheVariants.{Address, AddressInUse}
use Rattle.bsc_sockets.specs.declared.error.SocketsError.TheVariants.{NotPermitted, NotHere}
use Rattle.bsc_sockets.specs.declared.error.SocketsError.TheVariants.{CannotListen, NobodyThere}
use Rattle.bsc_sockets.specs.declared.error.SocketsError.TheVariants.{NobodyConnected, Stopped}
use Rattle.bsc_sockets.specs.declared.error.SocketsError.TheVariants.{CannotWatchInput, Sockets}
use Rattle.bsc_sockets.specs.declared.error.SocketsError.TheVariants.{Memory}

-- Each reason is told in words of its own.
abbrev pub reason : SocketsError → List ℕ
reason Address = codes "cannot read the address: it is HOST:PORT"
reason AddressInUse = codes "address in use"
reason NotPermitted = codes "cannot listen at this address: permission denied"
reason NotHere = codes "cannot listen at this address: no interface of this machine has it"
reason CannotListen = codes "cannot listen at this address"
reason NobodyThere = codes "nobody is there"
reason NobodyConnected = codes "nobody has connected"
reason Stopped = codes "the station was asked to end before its peers connected"
reason CannotWatchInput = codes "cannot wait for the end of standard input"
reason Sockets = codes "cannot make the sockets"
reason Memory = codes "out of memory"
