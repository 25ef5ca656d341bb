-- All the values are tables exactly when those that the loop has not reached are.
use Rattle.std.proofs.Common.{◌≡◌, drop}
use Rattle.toml.specs.View.{items_view}
use Rattle.bsc_config.specs.Tables.{are_tables}
use Rattle.bsc_config.proofs.lookup.are_tables.Given as goal

abbrev pub invariant-loop-value : goal.invariant-loop-value
invariant-loop-value l = are_tables (items_view l.values)
    ≡ are_tables (items_view (drop l.value-index l.values))
