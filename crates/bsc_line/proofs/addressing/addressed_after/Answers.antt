-- `addressed_after` returns the channel that is addressed after the control station's transmission.
use Rattle.std.proofs.Common.{sym, subst}
use Rattle.bsc_control.specs.Control.{terminals}
use Rattle.bsc_line_model.specs.Trust.{IsAddressedAfter}
use Rattle.bsc_line.specs.declared.hearing.Hearings.{Hearings}
use Rattle.bsc_line.specs.Hearings.{hearing_of}
use Rattle.bsc_line.proofs.addressing.addressed_after.Goals as goal

pub returns-in-Alike : goal.returns-in-Alike
returns-in-Alike g c =
    subst (λ (x : Hearings). IsAddressedAfter (terminals c.args.control.now) c.args.count
    (hearing_of x) c.args.addressed c.addressed_alike.result)
    (sym c.in-Alike.is) c.addressed_alike.ensures

pub returns-in-Each : goal.returns-in-Each
returns-in-Each g c =
    subst (λ (x : Hearings). IsAddressedAfter (terminals c.args.control.now) c.args.count
    (hearing_of x) c.args.addressed c.addressed_apart.result)
    (sym c.in-Each.is) c.addressed_apart.ensures
