-- Those of the channels below this number that were printed are forgotten.
use Rattle.bsc_attending.specs.Forgetting.{ForgetsEach}
use Rattle.bsc_attending.proofs.forgetting.forget_printed.Given as goal

abbrev pub invariant-channels : goal.invariant-channels
invariant-channels g l =
    ForgetsEach g.S.LineStation.forgets_arrived (g.Q.Keeps.printed l.kept) l.number l.fn.station
    l.station
