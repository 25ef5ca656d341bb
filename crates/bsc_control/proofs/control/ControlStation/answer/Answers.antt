-- `answer` does what the table says of a transmission.
use Rattle.std.proofs.Common.{sym, ◌∙◌, ap}
use Rattle.bsc_bid.specs.Addresses.{numbered}
use Rattle.bsc_control.specs.Kept.{AfterHearing}
use Rattle.bsc_control.proofs.Controls.{after_hearing_is}
use Rattle.bsc_control.proofs.control.ControlStation.answer.Given as given
use Rattle.bsc_control.proofs.control.ControlStation.answer.Goals as goal

state_after_hearing : (g : given.Over) (c : goal.After-hear g)
    → AfterHearing c.self.inside.procedure c.args.heard.now c.hear.new.self c.hear.new.sent
state_after_hearing g c =
    after_hearing_is c.self.inside.procedure c.args.heard.now c.hear.new.self c.hear.new.sent
    c.self.invariant.0 c.hear.ensures.entries c.hear.ensures.row

pub invariant_of-self : goal.invariant_of-self
invariant_of-self g c =
    ((state_after_hearing g c).control, c.self.invariant.1 ∙ ap (numbered 0) (sym (state_after_hearing g c).keeps.terminals))

pub returns : goal.returns
returns g c = rw (← c.self.view_is) (record { row = c.hear.ensures.row; after = state_after_hearing g c })
