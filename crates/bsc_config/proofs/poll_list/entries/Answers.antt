-- Shows that the loop reads the entries, and that an entry that cannot be read is refused.
use Rattle.std.proofs.Common.{◌+◌, ◌++◌, ◌∙◌, ap, sym, drop}
use Rattle.std.specs.Option.{option_map}
use Rattle.toml.specs.View.{items_view}
use Rattle.bsc_config.specs.declared.key.Key.TheVariants as key
use Rattle.bsc_config.specs.Values.{or_wrong, read_each, whole_number}
use Rattle.bsc_config.proofs.Items.{read_each_next, read_each_stop}
use Rattle.bsc_config.proofs.poll_list.entries.Goals as goal

pub loop-value-preserved : goal.loop-value-preserved
loop-value-preserved c =
    let rest =
    read_each (whole_number 0 255) (items_view
    (drop (c.loop-value.value-index + 1) c.args.values.now)) in
    c.loop-value.invariant
    ∙ read_each_next (whole_number 0 255) c.args.values.now c.loop-value.entries.items
    c.loop-value.value-index c.value-item.result c.in-Some.entry c.loop-value-test.true
    c.value-item.is (sym c.whole_number.ensures.value ∙ c.in-Some.is)
    ∙ ap (λ done. option_map (λ xs. done ++ xs) rest) (sym c.in_ok-push-in-Some.ensures.items)

pub returns-in-None : goal.returns-in-None
returns-in-None c =
    ap (or_wrong key.PollList) (c.loop-value.invariant
    ∙ read_each_stop (whole_number 0 255) c.args.values.now c.loop-value.entries.items
    c.loop-value.value-index c.value-item.result c.loop-value-test.true c.value-item.is
    (sym c.whole_number.ensures.value ∙ c.in-None.is))
