-- The visits are counted one after another.
use Rattle.bsc_monitor.proofs.Absent.{absent_by_silence}
use Rattle.bsc_monitor.proofs.laws.absences.Goals as goal

pub returns : goal.returns
returns c = absent_by_silence
