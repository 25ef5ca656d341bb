-- Shows what is written of the line after a failure.
use Rattle.std.proofs.Common.{◌++◌, codes}
use Rattle.std.proofs.KnownBytes.{Appends-trans}
use Rattle.bsc_text.specs.Forms.{in_form}
use Rattle.bsc_text.proofs.Fronts.{for_err, front_after, front_after_on_err, front_within}
use Rattle.bsc_text.proofs.Fronts.{front_within_err}
use Rattle.bsc_text.proofs.channels.write_record.Goals as goal

pub returns-in_err-put-clause-front : goal.returns-in_err-put-clause-front
returns-in_err-put-clause-front g c =
    front_within_err _ _ (codes "  ") (in_form c.args.form c.args.chars.now ++ codes "\n")
    c.from_residual.result c.in_err-put.ensures.front

pub returns-in_err-write_in_form-clause-front : goal.returns-in_err-write_in_form-clause-front
returns-in_err-write_in_form-clause-front g c =
    let chars = in_form c.args.form c.args.chars.now in
    for_err c.from_residual-in_err-write_in_form.result
    (front_within _ _ (codes "  " ++ chars) (codes "\n")
    (front_after _ _ _ (codes "  ") chars c.in_ok-put.ensures.ok
    c.in_err-write_in_form.ensures.front))

pub returns-clause-front : goal.returns-clause-front
returns-clause-front g c =
    let chars = in_form c.args.form c.args.chars.now in
    front_after_on_err _ _ _ (codes "  " ++ chars) (codes "\n") c.put-2.result
    (Appends-trans _ _ _ (codes "  ") chars c.in_ok-put.ensures.ok
    c.in_ok-write_in_form.ensures.ok) c.put-2.ensures.front
