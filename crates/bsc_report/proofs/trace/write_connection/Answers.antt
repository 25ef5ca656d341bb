-- The index is written, and then the address.
use Rattle.std.proofs.KnownBytes.{Appends-trans}
use Rattle.bsc_report.proofs.trace.write_connection.Goals as goal

pub returns-clause-ok : goal.returns-clause-ok
returns-clause-ok g c = Appends-trans _ _ _ _ _ c.in_ok-write_who.ensures.ok c.in_ok-write_origin.ensures.ok
