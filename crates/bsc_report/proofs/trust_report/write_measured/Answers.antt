-- The time is written, and then the end of the line.
use Rattle.std.proofs.KnownBytes.{Appends-trans}
use Rattle.bsc_report.proofs.trust_report.write_measured.Goals as goal

pub returns-clause-ok : goal.returns-clause-ok
returns-clause-ok g c = Appends-trans _ _ _ _ _ c.in_ok-write_share.ensures.ok c.in_ok-write_advice.ensures.ok
