-- A terminal that is made again is the restarted one.
use Rattle.bsc_tributary.proofs.Filling.{filled_new, filled_spooled, becomes_restarted}
use Rattle.bsc_tributary.proofs.laws.made_again.Goals as goal

pub returns-clause-new : goal.returns-clause-new
returns-clause-new c = filled_new

pub returns-clause-spooled : goal.returns-clause-spooled
returns-clause-spooled c = filled_spooled

pub returns-clause-restart : goal.returns-clause-restart
returns-clause-restart c = becomes_restarted c.recalls.ensures.restart
