-- Shows what is written of the text and of the number after a failure.
use Rattle.std.proofs.Common.{◌≡◌, rules}
use Rattle.std.specs.Fmt.{decimal}
use Rattle.bsc_text.proofs.Fronts.{front_after_on_err, front_within_err}
use Rattle.bsc_text.proofs.printed.put_numbered.Goals as goal

pub returns-in_err-put-clause-front : goal.returns-in_err-put-clause-front
returns-in_err-put-clause-front g c =
    front_within_err _ _ c.args.text.now (decimal c.args.number) c.from_residual.result
    c.in_err-put.ensures.front

pub returns-clause-front : goal.returns-clause-front
returns-clause-front g c =
    let digits : c.as_bytes.result.now ≡ decimal c.args.number = search rules in
    front_after_on_err _ _ _ c.args.text.now (decimal c.args.number) c.put-2.result
    c.in_ok-put.ensures.ok (rw digits at c.put-2.ensures.front)
