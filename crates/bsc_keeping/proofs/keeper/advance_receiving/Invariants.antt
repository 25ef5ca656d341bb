-- The ends so far are set.
use Rattle.std.proofs.Common.{◌≡◌, ◌++◌, take, drop}
use Rattle.bsc_keeping.specs.Changes.{receiving_now}
use Rattle.bsc_keeping.proofs.keeper.advance_receiving.Given as goal

abbrev pub invariant-ends : goal.invariant-ends
invariant-ends g l =
    l.end-items
    ≡ receiving_now g.P.Party l.station (g.V.Prints.printed l.printer)
    (take l.end-index l.fn.ends.items)
    ++ drop l.end-index l.fn.ends.items
