-- Shows what is written of the characters after a failure.
use Rattle.std.proofs.Common.{◌++◌, take, get_or, subst, sym, arith}
use Rattle.std.specs.List.{flat_map}
use Rattle.bsc_text.specs.Forms.{escape_of}
use Rattle.bsc_text.specs.Fronts.{AppendsFront}
use Rattle.bsc_text.proofs.Fronts.{for_err, front_after, front_within}
use Rattle.bsc_text.proofs.Lists.{flat_map_seam_at}
use Rattle.bsc_text.proofs.form.write_escaped.Goals as goal

pub returns-in_err-write_code-clause-front : goal.returns-in_err-write_code-clause-front
returns-in_err-write_code-clause-front g c =
    let chars = c.args.chars.now in
    let before = flat_map escape_of (take c.chars.code-index chars) in
    let code = escape_of (get_or chars c.chars.code-index 0) in
    let seam = flat_map_seam_at escape_of chars c.chars.code-index 0 (omega arith) in
    for_err c.from_residual.result
    (subst (λ text. AppendsFront (g.W.Write.contents c.args.out.now)
    (g.W.Write.contents c.write_code.new.out) text) (sym seam.1)
    (front_within _ _ (before ++ code) seam.0
    (front_after _ _ _ before code c.chars.invariant c.in_err-write_code.ensures.front)))
