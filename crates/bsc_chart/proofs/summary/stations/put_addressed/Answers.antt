-- Each cell is that of the definition.
use Rattle.bsc_chart.proofs.summary.stations.put_addressed.Goals as goal

pub returns : goal.returns
returns g c =
    rw (c.count-sent.ensures.value, c.count-arrived.ensures.value) at c.put_line.ensures
