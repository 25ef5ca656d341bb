-- The station was asked only by steps of programs, and has not failed.
use Rattle.std.proofs.Common.{None}
use Rattle.bsc_feed.specs.Answering.{serving_of}
use Rattle.bsc_serving.specs.Serves.{IsServed}
use Rattle.bsc_serving.proofs.serving.serve_session.Given as goal

abbrev pub invariant-steps : goal.invariant-steps
invariant-steps g l =
    let served = g.F.Served in
    IsServed g.F.Party (serving_of served) g.F.Failing.fails l.initial.fed None
    l.fed
