-- Each element is that of the definition.
use Rattle.bsc_chart.proofs.picture.row_groups.put_arrow.Goals as goal

pub returns : goal.returns
returns g c =
    rw (
      c.text.ensures,
      c.line.ensures,
      c.tail.ensures,
      c.heads.ensures,
      c.text-2.ensures,
      c.fate_name.ensures,
      c.last_station.ensures.value,
      c.shown_part.ensures.value,
    )
    at c.put_group.ensures
