-- The records of the channels so far are offered.
use Rattle.std.proofs.Common.{◌≡◌, drop}
use Rattle.bsc_spool.specs.Contents.{Contents, GivesBack, IsRead}
use Rattle.bsc_spool.specs.declared.channel.Channel.{Channel}
use Rattle.bsc_keeping.specs.Filled.{offered_each}
use Rattle.bsc_keeping.proofs.filling.offer_for_all.Given as goal

abbrev pub invariant-ends : goal.invariant-ends
invariant-ends g l = record {
  fills : g.P.Fills.fills l.initial.station l.station;
  takes : g.P.Fills.takes l.station ≡ l.full;
  reads : IsRead g.K.Store l.initial.store l.store;
  offered : (has : g.row.K.Denot → Channel → Contents) → GivesBack g.K.Store has
      → g.K.Store.sound l.store
      → offered_each g.P.Fills.offered (has l.initial.store) (drop l.end-index l.ends) l.station
      ≡ offered_each g.P.Fills.offered (has l.initial.store) l.ends l.initial.station;
}
