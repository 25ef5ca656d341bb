-- The channels so far are filled.
use Rattle.std.proofs.Common.{◌≡◌, ◌++◌, drop, map, take}
use Rattle.bsc_spool.specs.Contents.{Contents, GivesBack, IsRead}
use Rattle.bsc_spool.specs.declared.channel.Channel.{Channel}
use Rattle.bsc_keeping.specs.Filled.{AddsEach, receiving_from}
use Rattle.bsc_keeping.proofs.filling.add_for_all.Given as goal

abbrev pub invariant-ends : goal.invariant-ends
invariant-ends g l = record {
  fills : g.P.Fills.fills l.initial.station l.station;
  reads : IsRead g.K.Store l.initial.store l.store;
  adds : (has : g.row.K.Denot → Channel → Contents) → GivesBack g.K.Store has
      → g.K.Store.sound l.store → (last : g.row.P.Denot)
      → AddsEach g.P.Fills.gains g.P.Fills.forgets l.forgets_printed (has l.initial.store)
      (drop l.end-index l.fn.ends.items) l.station last
      → AddsEach g.P.Fills.gains g.P.Fills.forgets l.forgets_printed (has l.initial.store)
      l.fn.ends.items l.initial.station last;
  ends : (has : g.row.K.Denot → Channel → Contents) → GivesBack g.K.Store has
      → g.K.Store.sound l.store
      → l.end-items
      ≡ map (receiving_from (has l.initial.store)) (take l.end-index l.fn.ends.items)
      ++ drop l.end-index l.fn.ends.items;
  rest : drop l.end-index l.end-items ≡ drop l.end-index l.fn.ends.items;
}
