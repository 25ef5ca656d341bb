-- Why no address so far could be bound.
use Rattle.bsc_clients.specs.Listening.{IsBindError}
use Rattle.bsc_clients.proofs.listener.bind_first.Given as goal

abbrev pub invariant-loop-host : goal.invariant-loop-host
invariant-loop-host g l = IsBindError l.why
