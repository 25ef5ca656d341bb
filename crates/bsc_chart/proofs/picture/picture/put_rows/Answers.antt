-- One more row is written.
use Rattle.std.proofs.Common.{arith}
use Rattle.std.proofs.KnownBytes.{Appends-trans}
use Rattle.bsc_chart.proofs.RowTexts.{rows_more}
use Rattle.bsc_chart.proofs.picture.picture.put_rows.Goals as goal

pub rows-preserved : goal.rows-preserved
rows-preserved g c = (
  rw (rows_more c.args.columns 96 c.args.rows.now c.rows.row-index c.row-item.result
      c.rows-test.true c.row-item.is)
      (Appends-trans _ _ _ _ _ c.rows.invariant.0
      (rw (c.row.ensures, c.rows.invariant.1) at c.in_ok-put_row.ensures)),
  omega (arith, c.rows.invariant.1),
)
