-- The records so far are added.
use Rattle.bsc_keeping.specs.Filled.{AddsForgotten}
use Rattle.bsc_keeping.proofs.filling.add_forgotten.Given as goal

abbrev pub invariant-records : goal.invariant-records
invariant-records g l = record {
  fills : g.P.Fills.fills l.initial.station l.station;
  adds : AddsForgotten g.P.Fills.gains g.P.Fills.forgets l.number l.place l.initial.station
      l.station;
}
