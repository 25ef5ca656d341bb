-- The lines of the channels so far are written.
use Rattle.std.specs.Io.KnownBytes.{Appends}
use Rattle.bsc_text.specs.Channels.{each_below}
use Rattle.bsc_storing.specs.Lines.{unfit_at}
use Rattle.bsc_storing.proofs.reconciling.write_unfit.Given as goal

abbrev pub invariant-unfit : goal.invariant-unfit
invariant-unfit g l =
    Appends (g.W.Write.contents l.initial.out) (g.W.Write.contents l.out)
    (each_below (unfit_at l.line l.unfit) l.place)
