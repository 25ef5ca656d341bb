-- A turn of programs is part of the run of a station, and so is that it is told to end.
use Rattle.std.proofs.Common.{rules, ◌≡◌, true, is_some, sym, refl}
use Rattle.bsc_keeping.specs.LiveRuns.{begins}
use Rattle.bsc_attending.proofs.GoingOn.{after_told, as_fed}
use Rattle.bsc_attending.proofs.live.Live.serve.Goals as goal

pub returns-in_default-clause-ran : goal.returns-in_default-clause-ran
returns-in_default-clause-ran g c = begins refl

pub returns-clause-ran : goal.returns-clause-ran
returns-clause-ran g c =
    let fed : is_some c.args.self.now.programs ≡ true = search rules in
    as_fed g.S.Station g.S.LineStation g.Q.Keeps true (is_some c.args.self.now.programs) (sym fed)
    (after_told g.S.Station g.S.LineStation g.Q.Keeps true c.tell_stopped.result c.in_ok-is_asked.ensures)
