-- One more end is lower.
use Rattle.std.proofs.Common.{◌-◌, ◌<◌, length, get_or, arith}
use Rattle.std.proofs.lemmas.List.{get_or_default}
use Rattle.std.proofs.lemmas.List.Edits.{map_over_more}
use Rattle.bsc_block.proofs.packed.lower.Goals as goal

pub loop-end-preserved : goal.loop-end-preserved
loop-end-preserved g c =
    let there : c.loop-end.end-index < length c.loop-end.end-items =
    omega (arith, c.loop-end.auto.end-items, c.loop-end-test.true) in
    rw c.saturating_sub.ensures
    (map_over_more (λ e. e - c.args.by) c.deref_mut-end-items.result.now c.loop-end.end-items
    c.loop-end.end-index (get_or c.loop-end.end-items c.loop-end.end-index 0)
    c.loop-end-test.true c.loop-end.invariant
    (get_or_default c.loop-end.end-items c.loop-end.end-index 0
    (get_or c.loop-end.end-items c.loop-end.end-index 0) there))
