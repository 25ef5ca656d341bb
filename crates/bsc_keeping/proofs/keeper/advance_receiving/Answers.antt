-- One more end is set.
use Rattle.bsc_control.proofs.PeerLists.{map_with_one_more}
use Rattle.bsc_keeping.specs.Changes.{received_now, records_of}
use Rattle.bsc_spool.specs.declared.ends.Receiving.{Receiving}
use Rattle.bsc_keeping.proofs.keeper.advance_receiving.Goals as goal

pub ends-preserved : goal.ends-preserved
ends-preserved g c =
    let printed = g.V.Prints.printed c.args.printer.now in
    let station = c.args.station.now in
    map_with_one_more
    (λ (end : Receiving). received_now end (printed end.number)
    (records_of g.P.Party station printed end.number))
    c.args.ends.now.items _ _ _ _ _ c.ends-test.true c.deref_mut-end-items.ensures.value
    c.ends.invariant c.end-item.is c.receive.ensures
