-- One more row is counted.
use Rattle.std.proofs.Common.{ap, ap₂, ◌∙◌, sym, ◌+◌, arith}
use Rattle.bsc_chart.specs.Counts.{one_if, wanted_in, wants}
use Rattle.bsc_chart.proofs.Sums.{count_more}
use Rattle.bsc_chart.proofs.summary.counts.count.Goals as goal

pub rows-preserved : goal.rows-preserved
rows-preserved g c =
    let w = wanted_in c.args.wanted in
    let more = count_more w c.args.rows.now c.rows.row-index c.row-item.result c.rows-test.true
    c.row-item.is in (
      ap₂ (λ a b. a + b) c.rows.invariant.0
          (c.one_if-count.ensures.value
          ∙ ap one_if (c.is_wanted.ensures ∙ ap (wants w) c.row.ensures))
          ∙ sym more,
      omega (arith, c.rows.invariant.1, c.one_if-count.ensures.most),
    )
