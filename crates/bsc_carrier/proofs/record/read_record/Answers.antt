-- Each result of `read_record` is returned exactly when it is due.
use Rattle.bsc_carrier.proofs.Answered.{answered_after_read}
use Rattle.bsc_carrier.proofs.record.read_record.Goals as goal

pub returns-clause-whole : goal.returns-clause-whole
returns-clause-whole g c = (answered_after_read _ _ _ _ c.assemble.ensures.read).whole

pub returns-clause-ended : goal.returns-clause-ended
returns-clause-ended g c = (answered_after_read _ _ _ _ c.assemble.ensures.read).ended

pub returns-clause-wrong : goal.returns-clause-wrong
returns-clause-wrong g c = (answered_after_read _ _ _ _ c.assemble.ensures.read).wrong

pub returns-clause-short : goal.returns-clause-short
returns-clause-short g c = (answered_after_read _ _ _ _ c.assemble.ensures.read).short
