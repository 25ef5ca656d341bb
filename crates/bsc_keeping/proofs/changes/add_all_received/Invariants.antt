-- The changes of the channels so far are added.
use Rattle.std.proofs.Common.{◌≡◌, ◌++◌, take}
use Rattle.std.specs.List.{flat_map}
use Rattle.bsc_keeping.specs.Changes.{receiving_changes}
use Rattle.bsc_keeping.proofs.changes.add_all_received.Given as goal

abbrev pub invariant-ends : goal.invariant-ends
invariant-ends g l =
    l.step.items
    ≡ l.initial.step.items
    ++ flat_map (receiving_changes g.P.Party l.station (g.V.Prints.printed l.printer))
    (take l.end-index l.ends)
