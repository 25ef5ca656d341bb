-- The records so far are offered, and of what the store has the rest is left.
use Rattle.std.proofs.Common.{◌≡◌}
use Rattle.bsc_spool.specs.Contents.{Contents, GivesBack, IsRead, records_from}
use Rattle.bsc_spool.specs.declared.channel.Channel.{Channel}
use Rattle.bsc_keeping.specs.Filled.{offered_all}
use Rattle.bsc_keeping.proofs.FilledFrom.{IsAt}
use Rattle.bsc_keeping.proofs.filling.offer_all.Given as goal

abbrev pub invariant-records : goal.invariant-records
invariant-records g l = record {
  fills : g.P.Fills.fills l.initial.station l.station;
  takes : g.P.Fills.takes l.station ≡ l.full;
  reads : IsRead g.K.Store l.initial.store l.store;
  offered : (has : g.row.K.Denot → Channel → Contents) → GivesBack g.K.Store has
      → g.K.Store.sound l.store
      → (let records = (has l.initial.store l.fn.end.channel).offered in
      let t = l.fn.end.terminal in
      let s = l.fn.end.select in
      IsAt records l.counter l.mark l.more
      × (offered_all g.P.Fills.offered t s (records_from l.counter records) l.station
      ≡ offered_all g.P.Fills.offered t s (records_from l.initial.more records)
      l.initial.station));
}
