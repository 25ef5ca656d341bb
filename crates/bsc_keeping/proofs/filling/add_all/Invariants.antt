-- The records so far are added, and of what the store has the rest is left.
use Rattle.bsc_spool.specs.Contents.{Contents, GivesBack, IsRead, records_from}
use Rattle.bsc_spool.specs.declared.channel.Channel.{Channel}
use Rattle.bsc_keeping.specs.Filled.{AddsAll}
use Rattle.bsc_keeping.proofs.FilledFrom.{IsAt}
use Rattle.bsc_keeping.proofs.filling.add_all.Given as goal

abbrev pub invariant-records : goal.invariant-records
invariant-records g l = record {
  fills : g.P.Fills.fills l.initial.station l.station;
  reads : IsRead g.K.Store l.initial.store l.store;
  adds : (has : g.row.K.Denot → Channel → Contents) → GivesBack g.K.Store has
      → g.K.Store.sound l.store
      → (let records = (has l.initial.store l.fn.end.channel).arrived in
      IsAt records l.counter l.mark l.more
      × ((last : g.row.P.Denot)
      → AddsAll g.P.Fills.gains g.P.Fills.forgets l.fn.end.number (records_from l.counter records)
      l.station last
      → AddsAll g.P.Fills.gains g.P.Fills.forgets l.fn.end.number (records_from l.initial.more records)
      l.initial.station last));
}
