-- Each element is that of the definition.
use Rattle.bsc_chart.proofs.picture.row_groups.put_mark.Goals as goal

pub returns : goal.returns
returns g c =
    rw (
      c.text.ensures,
      c.text-2.ensures,
      c.sign_name-name.ensures,
      c.station_at-x.ensures.value,
      c.shown_part.ensures.value,
    ) at c.put_group.ensures
