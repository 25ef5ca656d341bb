-- One more place is filled.
use Rattle.bsc_keeping.proofs.FilledFrom.{forgotten_more}
use Rattle.bsc_keeping.proofs.filling.add_forgotten.Goals as goal

pub records-preserved : goal.records-preserved
records-preserved g c = record {
  fills = g.met.P.Fills.further _ _ _ c.records.invariant.fills
      (g.met.P.Fills.further _ _ _ c.add_arrived.ensures.fills c.forget_added.ensures.fills);
  adds =
      forgotten_more g.P.Fills.gains g.P.Fills.forgets c.args.number c.records.place
      c.empty.result c.args.station.now c.records.station c.add_arrived.new.self
      c.forget_added.new.self c.records.invariant.adds c.in_ok-add_arrived.ensures.gains
      c.empty.ensures c.forget_added.ensures.forgets;
}
