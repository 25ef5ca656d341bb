-- The lines of the records so far are written.
use Rattle.std.proofs.Common.{◌-◌, ◌≤◌, take, drop}
use Rattle.std.specs.List.{flat_map}
use Rattle.std.specs.Io.KnownBytes.{Appends}
use Rattle.bsc_run.specs.Changes.{landed_line}
use Rattle.bsc_run.proofs.changes.write_records.Given as goal

abbrev pub invariant-records : goal.invariant-records
invariant-records g l = record {
  after : l.before.arrived ≤ l.place;
  written : Appends (g.W.Write.contents l.initial.out) (g.W.Write.contents l.out)
      (flat_map (landed_line l.number l.before.terminal l.before.way)
      (take (l.place - l.before.arrived) (drop l.before.arrived l.records.items)));
}
