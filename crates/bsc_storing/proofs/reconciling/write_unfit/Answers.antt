-- Shows that the line of one more channel is written.
use Rattle.bsc_text.proofs.Appending.{each_below_more}
use Rattle.bsc_storing.specs.Lines.{unfit_at}
use Rattle.bsc_storing.proofs.reconciling.write_unfit.Goals as goal

pub unfit-preserved : goal.unfit-preserved
unfit-preserved g c =
    each_below_more (g.W.Write.contents c.args.out.now) (g.W.Write.contents c.unfit.out)
    (g.W.Write.contents c.write_unfit_one.new.out) (unfit_at c.args.line.now c.args.unfit.now)
    c.unfit.place c.unfit.invariant c.in_ok-write_unfit_one.ensures
