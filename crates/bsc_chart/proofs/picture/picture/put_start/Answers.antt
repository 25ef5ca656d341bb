-- The parts are written one after another.
use Rattle.std.proofs.KnownBytes.{Appends-trans}
use Rattle.bsc_chart.proofs.picture.picture.put_start.Goals as goal

pub returns : goal.returns
returns g c =
    Appends-trans _ _ _ _ _ (Appends-trans _ _ _ _ _ (Appends-trans _ _ _ _ _
    c.in_ok-put.ensures.ok c.in_ok-put_size.ensures) c.in_ok-put-2.ensures.ok)
    c.in_ok-put-3.ensures.ok
