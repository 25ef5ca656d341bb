-- Each element is that of the definition.
use Rattle.bsc_chart.proofs.picture.row_groups.put_silence.Goals as goal

pub returns : goal.returns
returns g c =
    rw (c.text.ensures, c.text-2.ensures, c.last_station.ensures.value) at c.put_group.ensures
