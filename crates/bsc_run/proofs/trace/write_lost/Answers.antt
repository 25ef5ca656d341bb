-- The parts of the line for a transmission that was lost are written one after another.
use Rattle.std.proofs.KnownBytes.{Appends-trans}
use Rattle.bsc_run.proofs.Appending.{two_on_ok}
use Rattle.bsc_run.proofs.trace.write_lost.Goals as goal

pub returns : goal.returns
returns g c =
    two_on_ok _ _ _ _ _ c.write_wire.result
    (Appends-trans _ _ _ _ _ c.in_ok-write_start.ensures c.in_ok-write_name.ensures.ok)
    c.write_wire.ensures
