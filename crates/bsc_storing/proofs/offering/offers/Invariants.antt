-- The changes so far are the offers of the records so far.
use Rattle.std.proofs.Common.{◌≡◌, ◌++◌, map}
use Rattle.std.specs.Vec.Iter.{into_iter_items}
use Rattle.bsc_spool.specs.declared.change.Change.TheVariants.{Offered}
use Rattle.bsc_storing.proofs.offering.offers.Given as goal

abbrev pub invariant-records : goal.invariant-records
invariant-records l = record {
  items : l.yielded ++ into_iter_items l.record-iterator ≡ into_iter_items l.initial.record-iterator;
  step : l.step.items ≡ map (Offered l.channel) l.yielded;
}
