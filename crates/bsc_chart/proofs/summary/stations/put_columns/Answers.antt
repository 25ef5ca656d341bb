-- One more column is written.
use Rattle.std.proofs.Common.{◌≡◌, add-one, rules}
use Rattle.std.specs.Fmt.{decimal}
use Rattle.std.proofs.KnownBytes.{Appends-trans}
use Rattle.bsc_chart.proofs.summary.stations.put_columns.Goals as goal

pub columns-preserved : goal.columns-preserved
columns-preserved g c =
    let label : c.format-label.result.now ≡ decimal c.columns.column = search rules in
    rw add-one (Appends-trans _ _ _ _ _ c.columns.invariant
    (rw label at c.in_ok-put_station.ensures))
