-- An operator's works on a store are followed.
use Rattle.bsc_restarts.proofs.ControlWorks.{control_works}
use Rattle.bsc_restarts.proofs.Works.{terminal_works}
use Rattle.bsc_restarts.proofs.laws.works_followed.Goals as goal

pub returns : goal.returns
returns c = record { terminal = terminal_works; control = control_works }
