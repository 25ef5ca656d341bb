-- The commands of the lines so far were sent, and what was printed is what was heard.
use Rattle.bsc_clients.specs.Answers.{Hears}
use Rattle.bsc_clients.proofs.Sent.{HasSentOf}
use Rattle.bsc_clients.proofs.command.sending.send_lines.Given as goal

abbrev pub invariant-lines : goal.invariant-lines
invariant-lines g l =
    HasSentOf (g.L.Read.remaining l.fn.input) (g.L.Read.remaining l.input) l.text l.follows
    (g.O.Write.contents l.fn.said) (g.O.Write.contents l.said)
    (g.W.Write.contents l.fn.out) (g.W.Write.contents l.out)
    × Hears (g.B.Read.remaining l.fn.heard) (g.B.Read.remaining l.heard)
    (g.W.Write.contents l.fn.out) (g.W.Write.contents l.out)
