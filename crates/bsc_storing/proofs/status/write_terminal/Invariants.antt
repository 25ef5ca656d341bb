-- The lines of the channels at the places so far are printed.
use Rattle.bsc_storing.specs.Lines.{ShowsPlaces}
use Rattle.bsc_storing.proofs.status.write_terminal.Given as goal

abbrev pub invariant-places : goal.invariant-places
invariant-places g l =
    ShowsPlaces g.S.Store l.line l.terminal l.place l.initial.store l.store
    (g.W.Write.contents l.initial.out) (g.W.Write.contents l.out)
