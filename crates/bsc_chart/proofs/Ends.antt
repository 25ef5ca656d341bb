-- The errors of a part of the work are errors of the whole, and what is written last ends a ladder.
use Rattle.std.proofs.Common.{ℕ, List, Option, None, Some, ◌≡◌}
use Rattle.std.specs.Prelude.{IfSome}
use Rattle.bsc_text.specs.declared.input.InputError.{InputError}
use Rattle.bsc_text.specs.declared.input.InputError.TheVariants as input
use Rattle.bsc_trace.specs.Texts.{Writes}
use Rattle.bsc_trace.specs.declared.waiting.LineError.{LineError}
use Rattle.bsc_trace.specs.declared.waiting.LineError.TheVariants as waiting
use Rattle.bsc_chart.specs.Asked.{IsEarly}
use Rattle.bsc_chart.specs.Errors.{IsDrawError, IsEndError, IsLineError, input_error, line_error}
use Rattle.bsc_chart.specs.Inputs.{DrawsInput, HasStopped, ReadsInput, passed_in}
use Rattle.bsc_chart.specs.Pages.{IsLateText, PageValue}
use Rattle.bsc_chart.specs.declared.drawing.Drawing.{Drawing}
use Rattle.bsc_chart.specs.declared.error.ChartError.{ChartError}
use Rattle.bsc_chart.specs.declared.error.ChartError.TheVariants as chart
use Rattle.bsc_chart.proofs.Drawn.{drawn_end}

-- an error of the lines is none of the words
pub late : (e : ChartError) → IsLineError e → IsEarly e → ⊥
late (chart.TooLongAt n) is early = early
late chart.Forms is early = is
late chart.Width is early = is
late chart.Lines is early = is
late chart.TooMany is early = early
late (chart.Input why) is early = early
late chart.Output is early = early
late chart.Memory is early = early

input_fault : (n : ℕ) (e : InputError) → IsLineError (input_error n e)
input_fault n input.TooLong = tt
input_fault n (input.Device why) = tt
input_fault n input.Memory = tt

pub read_fault : (n : ℕ) (e : LineError) → IsLineError (line_error n e)
read_fault n (waiting.Input e) = input_fault n e
read_fault n waiting.Output = tt

pub draw_fault : (e : ChartError) → IsDrawError e → IsLineError e
draw_fault (chart.TooLongAt n) is = tt
draw_fault chart.Forms is = is
draw_fault chart.Width is = is
draw_fault chart.Lines is = is
draw_fault chart.TooMany is = tt
draw_fault (chart.Input why) is = tt
draw_fault chart.Output is = tt
draw_fault chart.Memory is = tt

pub end_fault : (e : ChartError) → IsEndError e → IsLineError e
end_fault (chart.TooLongAt n) is = tt
end_fault chart.Forms is = is
end_fault chart.Width is = is
end_fault chart.Lines is = is
end_fault chart.TooMany is = tt
end_fault (chart.Input why) is = tt
end_fault chart.Output is = tt
end_fault chart.Memory is = tt

end_stop : (d : Drawing) (e : ChartError) (octets : List ℕ) (a b : Option (List ℕ))
    → IsEndError e → HasStopped d e octets a b
end_stop d (chart.TooLongAt n) octets a b is = absurd is
end_stop d chart.Forms octets a b is = tt
end_stop d chart.Width octets a b is = tt
end_stop d chart.Lines octets a b is = tt
end_stop d chart.TooMany octets a b is = absurd is
end_stop d (chart.Input why) octets a b is = absurd is
end_stop d chart.Output octets a b is = tt
end_stop d chart.Memory octets a b is = tt

pub end_stopped : (d : Drawing) (e : ChartError) (given a b : Option (List ℕ)) → IsEndError e
    → IfSome given (λ octets. HasStopped d e octets a b)
end_stopped d e None a b is = tt
end_stopped d e (Some octets) a b is = end_stop d e octets a b is

pub end_drawn : (d : Drawing) (k : PageValue) (m : ℕ) (given a b c : Option (List ℕ))
    → IfSome given (λ octets. ReadsInput d octets k m a b) → Writes (IsLateText d.form k) b c
    → IfSome given (λ octets. DrawsInput d octets a c)
end_drawn d k m None a b c h p = tt
end_drawn d k m (Some octets) a b c h p = drawn_end d octets k m a b c h p

-- what was read says how many lines were passed over
pub end_passed : (d : Drawing) (k : PageValue) (m : ℕ) (given a b : Option (List ℕ))
    → IfSome given (λ octets. ReadsInput d octets k m a b)
    → IfSome given (λ octets. m ≡ passed_in octets)
end_passed d k m None a b h = tt
end_passed d k m (Some octets) a b h = h.counted
