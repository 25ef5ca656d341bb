-- Records were printed in turns, or none.
use Rattle.bsc_attending.specs.Printer.{Follows, followed_of}
use Rattle.bsc_attending.proofs.printer.Printer.print_turns.Given as goal

abbrev pub invariant-turns : goal.invariant-turns
invariant-turns g l =
    Follows g.P.Party l.station (followed_of g.W.Write.contents l.fn.self)
    (followed_of g.W.Write.contents l.self)
