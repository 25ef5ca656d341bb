-- `act` does what the table says of a silence.
use Rattle.std.proofs.Common.{sym, ◌∙◌, ap}
use Rattle.bsc_bid.specs.Addresses.{numbered}
use Rattle.bsc_control.specs.Kept.{AfterSilence}
use Rattle.bsc_control.proofs.Controls.{after_silence_is}
use Rattle.bsc_control.proofs.control.ControlStation.act.Given as given
use Rattle.bsc_control.proofs.control.ControlStation.act.Goals as goal

state_after_silence : (g : given.Over) (c : goal.After-act_on_silence g)
    → AfterSilence c.self.inside.procedure c.act_on_silence.new.self c.act_on_silence.new.sent
state_after_silence g c =
    after_silence_is c.self.inside.procedure c.act_on_silence.new.self c.act_on_silence.new.sent
    c.self.invariant.0 c.act_on_silence.ensures.entries c.act_on_silence.ensures.row

pub invariant_of-self : goal.invariant_of-self
invariant_of-self g c =
    ((state_after_silence g c).control, c.self.invariant.1 ∙ ap (numbered 0) (sym (state_after_silence g c).keeps.terminals))

pub returns : goal.returns
returns g c =
    rw (← c.self.view_is) (record { row = c.act_on_silence.ensures.row; after = state_after_silence g c })
