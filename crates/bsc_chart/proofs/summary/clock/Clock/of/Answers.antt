-- One more row is in the clock.
use Rattle.std.proofs.Common.{ap, ◌∙◌, sym, arith}
use Rattle.bsc_chart.specs.PictureRows.{kept_in}
use Rattle.bsc_chart.specs.Clocks.{clock_after, clock_in, new_clock}
use Rattle.bsc_chart.proofs.Sums.{clock_more}
use Rattle.bsc_chart.proofs.summary.clock.Clock.of.Goals as goal

pub rows-preserved : goal.rows-preserved
rows-preserved g c =
    let more = clock_more new_clock c.args.rows.now c.rows.row-index c.row-item.result
    c.rows-test.true c.row-item.is in (
      c.after-clock.ensures.value
          ∙ ap (clock_after (clock_in c.rows.clock)) c.row.ensures
          ∙ ap (λ k. clock_after k (kept_in c.row-item.result)) c.rows.invariant.0
          ∙ sym more,
      omega (arith, c.after-clock.ensures.spoken, c.rows.invariant.1),
      omega (arith, c.after-clock.ensures.silent, c.rows.invariant.2),
    )
