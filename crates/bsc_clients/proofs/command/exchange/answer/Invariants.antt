-- The lines so far were heard and printed, and are no answers.
use Rattle.bsc_clients.specs.Answers.{Hears}
use Rattle.bsc_clients.proofs.Told.{TellsNews}
use Rattle.bsc_clients.proofs.command.exchange.answer.Given as goal

abbrev pub invariant-lines : goal.invariant-lines
invariant-lines g l =
    TellsNews (g.W.Write.contents l.fn.out) (g.W.Write.contents l.out)
    × Hears (g.B.Read.remaining l.fn.heard) (g.B.Read.remaining l.heard)
    (g.W.Write.contents l.fn.out) (g.W.Write.contents l.out)
