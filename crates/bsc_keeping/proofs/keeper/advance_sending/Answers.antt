-- One more end is set.
use Rattle.std.proofs.Common.{◌∙◌, ap, get_or}
use Rattle.bsc_control.proofs.PeerLists.{map_with_one_more}
use Rattle.bsc_keeping.specs.Changes.{known_now}
use Rattle.bsc_spool.specs.declared.ends.Sending.{Sending}
use Rattle.bsc_keeping.proofs.keeper.advance_sending.Goals as goal

pub ends-preserved : goal.ends-preserved
ends-preserved g c =
    let kept_at = g.P.LineStation.kept_at in
    let station = c.args.station.now in
    let before : Sending = get_or c.ends.end-items c.ends.end-index c.end-item.result in
    map_with_one_more
    (λ (end : Sending). known_now end (kept_at station end.terminal end.select))
    c.args.ends.now.items _ _ _ _ _ c.ends-test.true c.deref_mut-end-items.ensures.value
    c.ends.invariant c.end-item.is (c.know.ensures ∙ ap (known_now before) c.kept_at.ensures)
