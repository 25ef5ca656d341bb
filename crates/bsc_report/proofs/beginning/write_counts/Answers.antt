-- Both counts are written, one after the other.
use Rattle.std.proofs.KnownBytes.{Appends-trans}
use Rattle.bsc_report.proofs.beginning.write_counts.Goals as goal

pub returns-clause-ok : goal.returns-clause-ok
returns-clause-ok g c = Appends-trans _ _ _ _ _ c.in_ok-write_connected.ensures.ok c.in_ok-write_wanted.ensures.ok
