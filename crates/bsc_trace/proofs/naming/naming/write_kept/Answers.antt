-- Shows what is written of the line after a failure.
use Rattle.std.proofs.Common.{[], ◌∷◌}
use Rattle.bsc_text.proofs.Fronts.{for_err, front_after, front_within_err}
use Rattle.bsc_trace.proofs.naming.naming.write_kept.Goals as goal

pub returns-in_err-put-in-Units-clause-front : goal.returns-in_err-put-in-Units-clause-front
returns-in_err-put-in-Units-clause-front g c =
    rw c.in-Units.is
    (front_within_err _ _ c.args.line.now (10 ∷ []) c.from_residual.result
    c.in_err-put-in-Units.ensures.front)

pub returns-in_err-put-in-Units-2-clause-front : goal.returns-in_err-put-in-Units-2-clause-front
returns-in_err-put-in-Units-2-clause-front g c =
    rw c.in-Units.is
    (for_err c.from_residual-in_err-put-in-Units-2.result
    (front_after _ _ _ c.args.line.now (10 ∷ []) c.in_ok-put-in-Units.ensures.ok
    c.in_err-put-in-Units-2.ensures.front))
