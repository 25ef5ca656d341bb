-- `find` returns the terminal and way of the address.
use Rattle.std.proofs.Common.{List, sym, ◌∙◌, ap, subst}
use Rattle.std.specs.List.{Contains}
use Rattle.bsc_bid.specs.Addresses.{numbered}
use Rattle.bsc_control.specs.Control.{ControlValue, terminals}
use Rattle.bsc_bid.proofs.Owners.{Owner, owner_iff}
use Rattle.bsc_control.proofs.control.Control.find.Goals as goal

pub returns-clause-exact : goal.returns-clause-exact
returns-clause-exact g c =
    λ t way.
    let iff = owner_iff (terminals c.args.self.now) t way c.args.address.now in
    let same =
    c.self.invariant.1 ∙ ap (λ (v : ControlValue). numbered 0 (terminals v)) c.self.view_is in
    let P = λ (es : List Owner). Contains es (c.args.address.now, (t, way)) in (
      λ e. iff.0 (subst P same ((c.find.ensures t way).0 e)),
      λ h. (c.find.ensures t way).1 (subst P (sym same) (iff.1 h)),
    )
