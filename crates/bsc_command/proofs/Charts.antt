-- The fault for an error of drawing says what the error says.
use Rattle.std.proofs.Common.{ℕ, List, Option, inl, inr, subst, sym}
use Rattle.bsc_options.specs.ChartWords.{AskedChart}
use Rattle.bsc_chart.specs.Named.{HasFailedTrace, IsEarlyTrace}
use Rattle.bsc_chart.specs.declared.error.ChartError.{ChartError}
use Rattle.bsc_chart.specs.declared.error.ChartError.TheVariants as chart
use Rattle.bsc_chart.specs.declared.named.TraceError.{TraceError}
use Rattle.bsc_chart.specs.declared.named.TraceError.TheVariants as trace
use Rattle.clap.specs.declared.error.kind.ErrorKind.TheVariants as kind
use Rattle.bsc_command.specs.declared.fault.Fault.{Fault}
use Rattle.bsc_command.specs.declared.fault.Fault.TheVariants as fault
use Rattle.bsc_command.specs.Faults.{IsChartFault, IsChartingFault, IsEarly, IsTraceFault}
use Rattle.bsc_command.specs.Faults.{IsUsageOf}
use Rattle.bsc_command.specs.Program.{HasFailedChart}

-- wrong usage of either kind is a fault of drawing
wrong_value : (f : Fault) → IsUsageOf kind.InvalidValue f → IsChartingFault f
wrong_value (fault.Charting error) p = tt
wrong_value f p = inl p

conflict : (f : Fault) → IsUsageOf kind.ArgumentConflict f → IsChartingFault f
conflict (fault.Charting error) p = tt
conflict f p = inr p

chart_is_fault : (e : ChartError) (f : Fault) → IsChartFault e f → IsChartingFault f
chart_is_fault chart.Forms f p = conflict f p
chart_is_fault chart.Width f p = wrong_value f p
chart_is_fault chart.Lines f p = wrong_value f p
chart_is_fault e f p = subst IsChartingFault (sym p) tt

-- the fault is one of drawing
pub trace_is_fault : (e : TraceError) (f : Fault) → IsTraceFault e f → IsChartingFault f
trace_is_fault (trace.Chart e) f p = chart_is_fault e f p
trace_is_fault (trace.CannotRead path why) f p = subst IsChartingFault (sym p) tt

value_fails : (f : Fault) (words : AskedChart) (input old new : Option (List ℕ))
    → IsUsageOf kind.InvalidValue f → HasFailedChart f words input old new
value_fails (fault.Charting error) words input old new p = absurd p
value_fails f words input old new p = tt

conflict_fails : (f : Fault) (words : AskedChart) (input old new : Option (List ℕ))
    → IsUsageOf kind.ArgumentConflict f → HasFailedChart f words input old new
conflict_fails (fault.Charting error) words input old new p = absurd p
conflict_fails f words input old new p = tt

chart_failed : (words : AskedChart) (input old new : Option (List ℕ)) (e : ChartError)
    (f : Fault) → IsChartFault e f → HasFailedTrace words (trace.Chart e) input old new
    → HasFailedChart f words input old new
chart_failed words input old new chart.Forms f p q = conflict_fails f words input old new p
chart_failed words input old new chart.Width f p q = value_fails f words input old new p
chart_failed words input old new chart.Lines f p q = value_fails f words input old new p
chart_failed words input old new e f p q =
    subst (λ f. HasFailedChart f words input old new) (sym p) q

-- it says what the error says
pub trace_failed : (words : AskedChart) (input old new : Option (List ℕ)) (e : TraceError)
    (f : Fault) → IsTraceFault e f → HasFailedTrace words e input old new
    → HasFailedChart f words input old new
trace_failed words input old new (trace.Chart e) f p q = chart_failed words input old new e f p q
trace_failed words input old new (trace.CannotRead path why) f p q =
    subst (λ f. HasFailedChart f words input old new) (sym p) q

chart_early : (e : ChartError) (f : Fault) → IsChartFault e f → IsEarly f
    → IsEarlyTrace (trace.Chart e)
chart_early chart.Forms f p q = tt
chart_early chart.Width f p q = tt
chart_early chart.Lines f p q = tt
chart_early e f p q = absurd (subst IsEarly p q)

-- it comes before anything is written only if the error does
pub trace_early : (e : TraceError) (f : Fault) → IsTraceFault e f → IsEarly f → IsEarlyTrace e
trace_early (trace.Chart e) f p q = chart_early e f p q
trace_early (trace.CannotRead path why) f p q = absurd (subst IsEarly p q)
