-- A station whose connections cannot be made has not begun to run.
use Rattle.std.proofs.Common.{rules, IsErr, refl}
use Rattle.bsc_keeping.specs.LiveRuns.{begins}
use Rattle.bsc_attending.proofs.Ran.{ran_still}
use Rattle.bsc_attending.proofs.stations.attend_over.Goals as goal

pub returns-in_err-live-clause-ran : goal.returns-in_err-live-clause-ran
returns-in_err-live-clause-ran g c =
    let so : IsErr c.from_residual.result = search rules in
    ran_still _ _ c.args.kept.now (λ a. begins refl) (λ a. begins refl) c.args.prepared.now
    (IsErr c.from_residual.result) so
