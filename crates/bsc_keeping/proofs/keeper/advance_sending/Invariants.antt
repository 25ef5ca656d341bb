-- The ends so far are set.
use Rattle.std.proofs.Common.{◌≡◌, ◌++◌, take, drop}
use Rattle.bsc_keeping.specs.Changes.{sending_now}
use Rattle.bsc_keeping.proofs.keeper.advance_sending.Given as goal

abbrev pub invariant-ends : goal.invariant-ends
invariant-ends g l =
    l.end-items
    ≡ sending_now g.P.LineStation.kept_at l.station (take l.end-index l.fn.ends.items)
    ++ drop l.end-index l.fn.ends.items
