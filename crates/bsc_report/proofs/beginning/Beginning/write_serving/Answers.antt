-- The start of the line is written, and then the rest of it.
use Rattle.std.proofs.KnownBytes.{Appends-trans}
use Rattle.bsc_report.proofs.beginning.Beginning.write_serving.Goals as goal

pub returns-clause-ok : goal.returns-clause-ok
returns-clause-ok g c = Appends-trans _ _ _ _ _ c.in_ok-write_start.ensures.ok c.in_ok-write_served.ensures.ok
