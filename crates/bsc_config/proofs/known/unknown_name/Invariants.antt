-- The first unknown key of the table is the first unknown one of the names that remain.
use Rattle.std.proofs.Common.{◌≡◌}
use Rattle.toml.specs.View.{members_view}
use Rattle.bsc_config.specs.Checks.{first_unknown}
use Rattle.bsc_config.proofs.Keys.{first_in}
use Rattle.bsc_config.proofs.known.unknown_name.Given as goal

abbrev pub invariant-names : goal.invariant-names
invariant-names l = (goal.iterator-names).can_next l.name-iterator
    × (goal.iterator-names).is_finite l.name-iterator
    × (first_unknown l.owner (members_view l.table.entries) ≡ first_in l.owner l.name-iterator)
