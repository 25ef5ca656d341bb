-- The loop invariant of `forget_sent_to_all`.
use Rattle.bsc_station.specs.Forgetting.{ForgetsSent}
use Rattle.bsc_station.proofs.forgetting.forget_sent_to_all.Given as goal

-- Records for some selection addresses are forgotten.
abbrev pub invariant-selects : goal.invariant-selects
invariant-selects g l = ForgetsSent l.fn.control l.control
