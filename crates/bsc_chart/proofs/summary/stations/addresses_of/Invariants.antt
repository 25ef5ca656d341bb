-- The addresses so far are there.
use Rattle.std.proofs.Common.{◌≡◌, take}
use Rattle.std.specs.List.{flat_map}
use Rattle.bsc_chart.specs.PictureRows.{rows_in}
use Rattle.bsc_chart.specs.Tables.{addresses_in}
use Rattle.bsc_chart.proofs.summary.stations.addresses_of.Given as goal

abbrev pub invariant-names : goal.invariant-names
invariant-names g l =
    l.chars.items ≡ flat_map (addresses_in l.place) (rows_in (take l.name-index l.names))
