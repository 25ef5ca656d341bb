-- Why no address so far could be bound.
use Rattle.bsc_sockets.specs.Listening.{IsBindError}
use Rattle.bsc_sockets.proofs.listening.Listening.bind.Given as goal

abbrev pub invariant-addresses : goal.invariant-addresses
invariant-addresses g l = IsBindError l.why
