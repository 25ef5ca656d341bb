-- Shows that the loop reads the addresses, and that a value that is not an address is refused.
use Rattle.std.proofs.Common.{◌+◌, ◌++◌, ◌∙◌, ap, sym, drop}
use Rattle.std.specs.Option.{option_map}
use Rattle.toml.specs.View.{items_view}
use Rattle.bsc_config.specs.Values.{or_wrong, read_each, address_in}
use Rattle.bsc_config.proofs.Items.{read_each_next, read_each_stop}
use Rattle.bsc_config.proofs.terminals.addresses.Goals as goal

pub loop-value-preserved : goal.loop-value-preserved
loop-value-preserved c =
    let rest =
    read_each address_in (items_view (drop (c.loop-value.value-index + 1) c.args.values.now)) in
    c.loop-value.invariant
    ∙ read_each_next address_in c.args.values.now c.loop-value.addresses.items
    c.loop-value.value-index c.value-item.result c.in-Some.address c.loop-value-test.true
    c.value-item.is (sym c.address_in.ensures ∙ c.in-Some.is)
    ∙ ap (λ done. option_map (λ xs. done ++ xs) rest) (sym c.in_ok-push-in-Some.ensures.items)

pub returns-in-None : goal.returns-in-None
returns-in-None c =
    ap (or_wrong c.args.key) (c.loop-value.invariant
    ∙ read_each_stop address_in c.args.values.now c.loop-value.addresses.items
    c.loop-value.value-index c.value-item.result c.loop-value-test.true c.value-item.is
    (sym c.address_in.ensures ∙ c.in-None.is))
