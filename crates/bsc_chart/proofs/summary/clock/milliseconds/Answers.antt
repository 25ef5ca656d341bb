-- One more digit is read.
use Rattle.std.proofs.Common.{ap, ◌∙◌, sym, get_or}
use Rattle.bsc_chart.specs.Clocks.{with_digit}
use Rattle.bsc_chart.proofs.Sums.{milliseconds_more}
use Rattle.bsc_chart.proofs.summary.clock.milliseconds.Goals as goal

pub digits-preserved : goal.digits-preserved
digits-preserved c = (
  c.with_digit-number.ensures.value
      ∙ ap (λ n. with_digit n (get_or c.args.time.now c.digits.digit-index 0))
      c.digits.invariant.0
      ∙ sym (milliseconds_more 0 c.args.time.now c.digits.digit-index 0 c.digits-test.true),
  c.with_digit-number.ensures.most,
)
