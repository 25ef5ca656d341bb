-- The records so far are offered.
use Rattle.std.proofs.Common.{◌≡◌, [], replicate}
use Rattle.bsc_keeping.specs.Filled.{offered_all}
use Rattle.bsc_keeping.proofs.filling.offer_empty.Given as goal

abbrev pub invariant-records : goal.invariant-records
invariant-records g l = record {
  fills : g.P.Fills.fills l.initial.station l.station;
  takes : g.P.Fills.takes l.station ≡ l.full;
  offered : l.station
      ≡ offered_all g.P.Fills.offered l.end.terminal l.end.select (replicate l.counter [])
      l.initial.station;
}
