-- The parts are written one after another.
use Rattle.std.proofs.KnownBytes.{Appends-trans}
use Rattle.bsc_chart.proofs.summary.times.put_divided.Goals as goal

pub returns : goal.returns
returns g c =
    Appends-trans _ _ _ _ _ (Appends-trans _ _ _ _ _ (Appends-trans _ _ _ _ _ c.in_ok-put.ensures.ok
    (rw c.silent_tenths-tenths.ensures.value at c.in_ok-put_part.ensures))
    (rw c.silent_tenths-tenths.ensures.value at c.in_ok-put_part-2.ensures))
    c.in_ok-put-2.ensures.ok
