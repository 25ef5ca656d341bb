-- Records for the selection addresses of one more terminal may be forgotten.
use Rattle.bsc_station.specs.Forgetting.{nothing}
use Rattle.bsc_station.proofs.Forgotten.{forgets_in_turn}
use Rattle.bsc_station.proofs.control_station.ControlLineStation.forget_known.Goals as goal

pub terminals-init : goal.terminals-init
terminals-init g c = nothing

pub terminals-preserved : goal.terminals-preserved
terminals-preserved g c = forgets_in_turn c.terminals.invariant c.forget_sent_to_all.ensures
