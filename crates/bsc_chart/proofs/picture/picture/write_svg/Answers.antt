-- The parts are written one after another.
use Rattle.std.proofs.Common.{◌++◌, ◌+◌, codes, refl}
use Rattle.std.proofs.lemmas.List.{length-map}
use Rattle.std.proofs.KnownBytes.{Appends-trans}
use Rattle.bsc_chart.specs.Pictures.{bottom_of, rows_from, stations_markup, svg_start}
use Rattle.bsc_chart.specs.PictureRows.{kept_in, rows_in}
use Rattle.bsc_chart.proofs.picture.picture.write_svg.Goals as goal

pub returns : goal.returns
returns g c =
    let columns = c.args.picture.now.columns in
    let names = rows_in c.args.picture.now.names.now in
    let rows = rows_in c.args.picture.now.rows.now in
    let count = length-map c.args.picture.now.rows.now kept_in in
    record {
      text = svg_start c.width-width.result (bottom_of rows + 16)
          ++ stations_markup (bottom_of rows) columns names ++ rows_from columns 96 rows
          ++ codes "</svg>\n";
      kind = record { width = c.width-width.result; whole = refl };
      appended =
          rw count (Appends-trans _ _ _ _ _ (Appends-trans _ _ _ _ _ (Appends-trans _ _ _ _ _
          c.in_ok-put_start.ensures c.in_ok-put_stations.ensures) c.in_ok-put_rows.ensures)
          c.in_ok-put.ensures.ok);
    }
