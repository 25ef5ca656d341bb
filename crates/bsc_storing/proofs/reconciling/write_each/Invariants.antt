-- The lines of the doubts so far are written.
use Rattle.std.specs.Io.KnownBytes.{Appends}
use Rattle.bsc_text.specs.Channels.{each_below}
use Rattle.bsc_storing.specs.Lines.{ended_at}
use Rattle.bsc_storing.proofs.reconciling.write_each.Given as goal

abbrev pub invariant-ended : goal.invariant-ended
invariant-ended g l =
    Appends (g.W.Write.contents l.initial.out) (g.W.Write.contents l.out)
    (each_below (ended_at l.line l.ended) l.place)
