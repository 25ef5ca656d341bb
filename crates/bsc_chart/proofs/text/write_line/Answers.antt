-- The labels are written, and then the row.
use Rattle.bsc_trace.specs.Lines.{value_in}
use Rattle.bsc_chart.proofs.Ladders.{line_written}
use Rattle.bsc_chart.proofs.text.write_line.Goals as goal

pub returns : goal.returns
returns g c =
    line_written (value_in c.args.value.now) _ _ _ c.in_ok-put_labels.ensures
    c.in_ok-write_line_row.ensures
