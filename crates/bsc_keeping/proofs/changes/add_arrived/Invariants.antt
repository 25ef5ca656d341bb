-- The records so far are added.
use Rattle.std.proofs.Common.{◌≡◌, ◌++◌, ◌-◌, ◌≤◌, take, drop, map}
use Rattle.bsc_spool.specs.declared.change.Change.TheVariants.{Arrived}
use Rattle.bsc_keeping.proofs.changes.add_arrived.Given as goal

abbrev pub invariant-records : goal.invariant-records
invariant-records g l = record {
  after : l.end.arrived ≤ l.place;
  added : l.step.items
      ≡ l.initial.step.items
      ++ map (Arrived l.end.channel)
      (take (l.place - l.end.arrived) (drop l.end.arrived l.records.items));
}
