-- Shows what is written of the name of a call after a failure.
use Rattle.std.proofs.Common.{◌≡◌, ◌++◌, ap, codes, rules}
use Rattle.bsc_text.specs.Names.{message_name}
use Rattle.bsc_text.proofs.Fronts.{front_after_on_err, front_within_err}
use Rattle.bsc_text.proofs.printed.write_name.Goals as goal

pub returns-in_err-put-in-Call-clause-front : goal.returns-in_err-put-in-Call-clause-front
returns-in_err-put-in-Call-clause-front g c =
    rw (ap message_name c.in-Call.is)
    (front_within_err _ _ (codes "CALL ") _ c.from_residual.result
    c.in_err-put-in-Call.ensures.front)

pub returns-in_ok-put-in-Call-clause-front : goal.returns-in_ok-put-in-Call-clause-front
returns-in_ok-put-in-Call-clause-front g c =
    let named : message_name c.args.message.now ≡ codes "CALL " ++ c.codes.result.now =
    search rules in
    rw named
    (front_after_on_err _ _ _ (codes "CALL ") c.codes.result.now c.put-in-Call-2.result
    c.in_ok-put-in-Call.ensures.ok c.put-in-Call-2.ensures.front)
