-- The lines so far were heard and printed, and none is a fault.
use Rattle.bsc_clients.specs.Answers.{TellsNoFault}
use Rattle.bsc_clients.proofs.Told.{HasHeardOf}
use Rattle.bsc_clients.proofs.command.exchange.follow.Given as goal

abbrev pub invariant-lines : goal.invariant-lines
invariant-lines g l =
    TellsNoFault (g.W.Write.contents l.fn.out) (g.W.Write.contents l.out)
    × HasHeardOf (g.B.Read.remaining l.fn.heard) (g.B.Read.remaining l.heard)
    (g.W.Write.contents l.fn.out) (g.W.Write.contents l.out)
