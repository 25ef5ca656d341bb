-- The addresses are those that the names tell.
use Rattle.bsc_chart.proofs.summary.stations.put_station.Goals as goal

pub returns : goal.returns
returns g c =
    rw (c.deref.ensures.value, c.in_ok-addresses.ensures) at c.put_addressed.ensures
