-- The row is that of this variant.
use Rattle.bsc_chart.proofs.picture.row_groups.put_row.Goals as goal

pub returns-in_ok-digits-in-Arrow : goal.returns-in_ok-digits-in-Arrow
returns-in_ok-digits-in-Arrow g c =
    rw c.in-Arrow.is
    (rw (c.as_str.ensures.value, c.in_ok-digits-in-Arrow.ensures) at c.put_arrow.ensures)

pub returns-in-Mark : goal.returns-in-Mark
returns-in-Mark g c = rw c.in-Mark.is c.put_mark.ensures
