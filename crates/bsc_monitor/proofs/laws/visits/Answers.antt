-- The visits are followed, row by row of the table.
use Rattle.bsc_monitor.proofs.Followed.{follows_new, follows_hearing, follows_silence}
use Rattle.bsc_monitor.proofs.laws.visits.Goals as goal

pub returns-clause-new_control : goal.returns-clause-new_control
returns-clause-new_control c = follows_new

pub returns-clause-hearing : goal.returns-clause-hearing
returns-clause-hearing c = follows_hearing

pub returns-clause-silence : goal.returns-clause-silence
returns-clause-silence c = follows_silence
