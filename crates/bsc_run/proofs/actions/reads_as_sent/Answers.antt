-- Shows that the octets of a message that is pending spell it.
use Rattle.std.proofs.Common.{Option, subst}
use Rattle.std.specs.Prelude.{IfSome}
use Rattle.bsc_frame.specs.Message.{IsMessage}
use Rattle.bsc_frame.specs.Wire.{wire}
use Rattle.bsc_line_model.specs.declared.transmission.Transmission.{Transmission}
use Rattle.bsc_run.proofs.actions.reads_as_sent.Goals as goal

pub returns : goal.returns
returns g c =
    λ sent pending. let is : IsMessage sent.message =
    subst (λ (o : Option Transmission). IfSome o (λ (s : Transmission). IsMessage s.message))
    pending c.pending-pending.ensures.limits in
    (c.reading.ensures.whole (wire sent.message) sent.message).1
    (c.one_reading.ensures.sent sent.message is)
