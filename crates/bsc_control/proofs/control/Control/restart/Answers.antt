-- A control station that begins again is one.
use Rattle.std.proofs.Common.{sym, ◌∙◌, ap, subst}
use Rattle.bsc_bid.specs.Addresses.{numbered}
use Rattle.bsc_control.specs.Control.{ControlValue, terminals}
use Rattle.bsc_control.specs.Kept.{IsControl}
use Rattle.bsc_control.proofs.Restarting.{control_restarted, terminals_restarted}
use Rattle.bsc_control.proofs.control.Control.restart.Goals as goal

pub invariant_of-self : goal.invariant_of-self
invariant_of-self g c = (
  subst IsControl (sym c.restart.ensures) (control_restarted c.self.inside.procedure c.self.invariant.0),
  c.self.invariant.1 ∙ ap (numbered 0) (sym (terminals_restarted c.self.inside.procedure))
      ∙ ap (λ (x : ControlValue). numbered 0 (terminals x)) (sym c.restart.ensures),
)

pub returns-clause-control : goal.returns-clause-control
returns-clause-control g c = (invariant_of-self g c).0
