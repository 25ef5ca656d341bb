-- Shows that the errors of drawing are told, and that none of them is one of the words.
use Rattle.std.proofs.Common.{Err, Ok, Result}
use Rattle.std.specs.Prelude.{IfErr}
use Rattle.bsc_chart.specs.Asked.{IsEarly}
use Rattle.bsc_chart.specs.Errors.{IsLineError}
use Rattle.bsc_chart.specs.declared.error.ChartError.{ChartError}
use Rattle.bsc_chart.proofs.Ends.{late}
use Rattle.bsc_chart.proofs.words.draw.Goals as goal

late_result : {X : Type 0} (P : Type 0) (r : Result X ChartError) → IfErr r IsLineError
    → IfErr r (λ error. IsEarly error → P)
late_result P (Ok done) is = tt
late_result P (Err error) is = λ early. absurd (late error is early)

pub returns-in-Ok-clause-early : goal.returns-in-Ok-clause-early
returns-in-Ok-clause-early g c = late_result _ c.chart.result c.chart.ensures.faults
