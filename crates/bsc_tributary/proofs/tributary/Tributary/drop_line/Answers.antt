-- `drop_line` is the row of EOT.
use Rattle.bsc_tributary.proofs.Hearing.{hears_eot}
use Rattle.bsc_tributary.proofs.Stays.{stays_without_line}
use Rattle.bsc_tributary.proofs.tributary.Tributary.drop_line.Goals as goal

pub invariant_of-self : goal.invariant_of-self
invariant_of-self g c = stays_without_line _ _ c.self.invariant c.cut_off.ensures.state
    (c.cut_off.ensures.ready _ c.self.invariant.ready)

pub returns-clause-hearing : goal.returns-clause-hearing
returns-clause-hearing g c =
    hears_eot _ c.args.self.now c.cut_off.new.self c.self.view_is c.self.invariant
    c.cut_off.ensures.state (c.cut_off.ensures.ready _ c.self.invariant.ready)
