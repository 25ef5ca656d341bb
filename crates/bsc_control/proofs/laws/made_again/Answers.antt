-- A control station that is made again is the restarted one.
use Rattle.bsc_control.proofs.Filling.{begun_new, begun_filled, recalled_restarted}
use Rattle.bsc_control.proofs.Filling.{restarted_by_filling}
use Rattle.bsc_control.proofs.laws.made_again.Goals as goal

pub returns-clause-new : goal.returns-clause-new
returns-clause-new c = begun_new

pub returns-clause-filled : goal.returns-clause-filled
returns-clause-filled c = begun_filled

pub returns-clause-recalled : goal.returns-clause-recalled
returns-clause-recalled c = recalled_restarted c.recalls.ensures.restart

pub returns-clause-restart : goal.returns-clause-restart
returns-clause-restart c = restarted_by_filling
