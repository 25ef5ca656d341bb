-- The reading of all values is the addresses read so far and the reading of the rest.
use Rattle.std.proofs.Common.{◌≡◌, ◌++◌, drop}
use Rattle.std.specs.Option.{option_map}
use Rattle.toml.specs.View.{items_view}
use Rattle.bsc_config.specs.Values.{address_in, read_each}
use Rattle.bsc_config.proofs.terminals.addresses.Given as goal

abbrev pub invariant-loop-value : goal.invariant-loop-value
invariant-loop-value l =
    read_each address_in (items_view l.values)
    ≡ option_map (λ xs. l.addresses.items ++ xs)
    (read_each address_in (items_view (drop l.value-index l.values)))
