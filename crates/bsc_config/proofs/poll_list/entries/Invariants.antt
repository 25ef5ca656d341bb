-- The reading of all values is the entries read so far and the reading of the rest.
use Rattle.std.proofs.Common.{◌≡◌, ◌++◌, drop}
use Rattle.std.specs.Option.{option_map}
use Rattle.toml.specs.View.{items_view}
use Rattle.bsc_config.specs.Values.{read_each, whole_number}
use Rattle.bsc_config.proofs.poll_list.entries.Given as goal

abbrev pub invariant-loop-value : goal.invariant-loop-value
invariant-loop-value l =
    read_each (whole_number 0 255) (items_view l.values)
    ≡ option_map (λ xs. l.entries.items ++ xs)
    (read_each (whole_number 0 255) (items_view (drop l.value-index l.values)))
