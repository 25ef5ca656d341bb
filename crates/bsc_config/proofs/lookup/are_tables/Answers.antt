-- Shows that the loop answers whether all the values are tables.
use Rattle.std.proofs.Common.{◌+◌, ◌&&◌, ◌∙◌, ap, sym, drop}
use Rattle.toml.specs.View.{items_view}
use Rattle.bsc_config.specs.Tables.{are_tables}
use Rattle.bsc_config.proofs.Items.{items_from_index}
use Rattle.bsc_config.proofs.lookup.are_tables.Goals as goal

pub loop-value-preserved : goal.loop-value-preserved
loop-value-preserved c =
    let rest = are_tables (items_view (drop (c.loop-value.value-index + 1) c.args.values.now)) in
    c.loop-value.invariant
    ∙ ap are_tables (items_from_index c.args.values.now c.loop-value.value-index c.value-item.result
    c.loop-value-test.true c.value-item.is)
    ∙ ap (λ b. b && rest) (sym c.is_table.ensures ∙ c.if-not-is_table.false)

pub returns-then-not-is_table : goal.returns-then-not-is_table
returns-then-not-is_table c =
    let rest = are_tables (items_view (drop (c.loop-value.value-index + 1) c.args.values.now)) in
    sym (c.loop-value.invariant
    ∙ ap are_tables (items_from_index c.args.values.now c.loop-value.value-index c.value-item.result
    c.loop-value-test.true c.value-item.is)
    ∙ ap (λ b. b && rest) (sym c.is_table.ensures ∙ c.if-not-is_table.true))
