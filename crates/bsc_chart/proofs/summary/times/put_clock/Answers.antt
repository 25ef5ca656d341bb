-- The clock is that of the rows.
use Rattle.std.proofs.Common.{subst}
use Rattle.std.specs.Io.KnownBytes.{Appends}
use Rattle.std.specs.Prelude.{OnOk}
use Rattle.bsc_chart.specs.SummaryPages.{times_if}
use Rattle.bsc_chart.proofs.summary.times.put_clock.Goals as goal

pub returns : goal.returns
returns g c =
    subst
    (λ clock. OnOk c.put_if.result (Appends (g.W.Write.contents c.args.out.now)
    (g.W.Write.contents c.put_if.new.out) (times_if clock)))
    c.of-clock.ensures.value c.put_if.ensures
