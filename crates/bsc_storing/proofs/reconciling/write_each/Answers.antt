-- Shows that the line of one more doubt is written.
use Rattle.bsc_text.proofs.Appending.{each_below_more}
use Rattle.bsc_storing.specs.Lines.{ended_at}
use Rattle.bsc_storing.proofs.reconciling.write_each.Goals as goal

pub ended-preserved : goal.ended-preserved
ended-preserved g c =
    each_below_more (g.W.Write.contents c.args.out.now) (g.W.Write.contents c.ended.out)
    (g.W.Write.contents c.write_one.new.out) (ended_at c.args.line.now c.args.ended.now)
    c.ended.place c.ended.invariant c.in_ok-write_one.ensures
