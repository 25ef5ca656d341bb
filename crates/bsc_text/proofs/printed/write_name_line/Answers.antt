-- Shows what is written of the line after a failure.
use Rattle.std.proofs.Common.{[], ◌∷◌}
use Rattle.bsc_text.specs.Names.{name_of}
use Rattle.bsc_text.proofs.Fronts.{front_after_on_err, front_within_err}
use Rattle.bsc_text.proofs.printed.write_name_line.Goals as goal

pub returns-in_err-write_heard_name-clause-front : goal.returns-in_err-write_heard_name-clause-front
returns-in_err-write_heard_name-clause-front g c =
    front_within_err _ _ (name_of c.args.heard.now) (10 ∷ []) c.from_residual.result
    c.in_err-write_heard_name.ensures.front

pub returns-clause-front : goal.returns-clause-front
returns-clause-front g c =
    front_after_on_err _ _ _ (name_of c.args.heard.now) (10 ∷ []) c.put.result
    c.in_ok-write_heard_name.ensures.ok c.put.ensures.front
