-- The station runs, and programs can feed it as they could before.
use Rattle.std.proofs.Common.{◌≡◌, is_some}
use Rattle.bsc_keeping.specs.LiveRuns.{goes}
use Rattle.bsc_keeping.specs.FedRuns.{RunsFed}
use Rattle.bsc_attending.specs.Live.{state}
use Rattle.bsc_attending.proofs.live.Live.attend.Given as goal

abbrev pub invariant-steps : goal.invariant-steps
invariant-steps g l =
    RunsFed g.S.Station g.S.LineStation g.Q.Keeps (is_some l.fn.self.programs) goes
    (state l.fn.station l.fn.kept) (state l.station l.kept)
    × (is_some l.self.programs ≡ is_some l.fn.self.programs)
