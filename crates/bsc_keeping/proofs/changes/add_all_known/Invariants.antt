-- The changes of the channels so far are added.
use Rattle.std.proofs.Common.{◌≡◌, ◌++◌, take}
use Rattle.std.specs.List.{flat_map}
use Rattle.bsc_keeping.specs.Changes.{sending_changes}
use Rattle.bsc_keeping.proofs.changes.add_all_known.Given as goal

abbrev pub invariant-ends : goal.invariant-ends
invariant-ends g l =
    l.step.items
    ≡ l.initial.step.items
    ++ flat_map (sending_changes g.P.LineStation.kept_at l.station) (take l.end-index l.ends)
