-- The parts are written one after another.
use Rattle.std.proofs.Common.{◌++◌, refl}
use Rattle.std.proofs.KnownBytes.{Appends-trans}
use Rattle.bsc_chart.specs.PictureRows.{rows_in}
use Rattle.bsc_chart.specs.SummaryPages.{kinds_table, stations_table, times_table}
use Rattle.bsc_chart.specs.declared.summary.style.TheConstants.{PAGE_START, LADDER_START, PAGE_END}
use Rattle.bsc_chart.proofs.summary.page.write_html.Goals as goal

pub returns : goal.returns
returns g c =
    let columns = c.args.picture.now.columns in
    let names = rows_in c.args.picture.now.names.now in
    let rows = rows_in c.args.picture.now.rows.now in
    let drawn = c.in_ok-write_svg.ensures in
    record {
      text = PAGE_START.now ++ kinds_table rows ++ stations_table columns names rows
          ++ times_table rows ++ LADDER_START.now ++ drawn.text ++ PAGE_END.now;
      kind = record { picture = drawn.text; is_picture = drawn.kind; whole = refl };
      appended =
          Appends-trans _ _ _ _ _ (Appends-trans _ _ _ _ _ (Appends-trans _ _ _ _ _
          (Appends-trans _ _ _ _ _ (Appends-trans _ _ _ _ _ (Appends-trans _ _ _ _ _
          c.in_ok-put.ensures.ok c.in_ok-put_kinds.ensures) c.in_ok-put_stations.ensures)
          c.in_ok-put_times.ensures) c.in_ok-put-2.ensures.ok) drawn.appended)
          c.in_ok-put-3.ensures.ok;
    }
