-- The loop invariant of `forget_known` of a control station.
use Rattle.bsc_station.specs.Forgetting.{ForgetsSent}
use Rattle.bsc_station.proofs.control_station.ControlLineStation.forget_known.Given as goal

-- Records for some selection addresses are forgotten.
abbrev pub invariant-terminals : goal.invariant-terminals
invariant-terminals g l = ForgetsSent l.fn.self l.self
