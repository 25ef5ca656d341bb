-- The parts of the line for a transmission that was heard are written one after another.
use Rattle.std.proofs.KnownBytes.{Appends-trans}
use Rattle.bsc_run.proofs.Appending.{two_on_ok}
use Rattle.bsc_run.proofs.trace.write_heard.Goals as goal

pub returns : goal.returns
returns g c =
    let start =
    rw (c.fate_if-fate.ensures, c.is_turned.ensures, c.decode-heard.ensures.reading) at
    c.in_ok-write_start.ensures in
    let name = rw c.decode-heard.ensures.reading at c.in_ok-write_heard_name.ensures.ok in
    two_on_ok _ _ _ _ _ c.write_octets.result (Appends-trans _ _ _ _ _ start name)
    c.write_octets.ensures
