-- Shows what is written of the name of a text after a failure.
use Rattle.std.proofs.Common.{◌≡◌, ◌++◌, codes, length, rules}
use Rattle.std.specs.Fmt.{decimal}
use Rattle.std.proofs.KnownBytes.{Appends-trans}
use Rattle.bsc_text.specs.Names.{end_name}
use Rattle.bsc_text.proofs.Fronts.{for_err, front_after, front_after_on_err, front_within}
use Rattle.bsc_text.proofs.Fronts.{front_joined, front_within_err}
use Rattle.bsc_text.proofs.printed.write_text_name.Goals as goal

pub returns-in_err-put-clause-front : goal.returns-in_err-put-clause-front
returns-in_err-put-clause-front g c =
    front_within_err _ _ (codes "TEXT ")
    (end_name c.args.text.now.end ++ codes " " ++ decimal (length c.args.text.now.units))
    c.from_residual.result c.in_err-put.ensures.front

pub returns-in_err-put-2-clause-front : goal.returns-in_err-put-2-clause-front
returns-in_err-put-2-clause-front g c =
    let end = end_name c.args.text.now.end in
    let count = decimal (length c.args.text.now.units) in
    let named : c.as_bytes.result.now ≡ end_name c.args.text.now.end = search rules in
    for_err c.from_residual-in_err-put-2.result
    (front_within _ _ (codes "TEXT " ++ end ++ codes " ") count
    (front_within _ _ (codes "TEXT " ++ end) (codes " ")
    (front_after _ _ _ (codes "TEXT ") end c.in_ok-put.ensures.ok
    (rw named at c.in_err-put-2.ensures.front))))

pub returns-clause-front : goal.returns-clause-front
returns-clause-front g c =
    let end = end_name c.args.text.now.end in
    let count = decimal (length c.args.text.now.units) in
    let named : c.as_bytes.result.now ≡ end_name c.args.text.now.end = search rules in
    let counted : c.count.result ≡ length c.args.text.now.units = search rules in
    front_joined _ _ (codes "TEXT " ++ end) (codes " ") count c.put_numbered.result
    (front_after_on_err _ _ _ (codes "TEXT " ++ end) (codes " " ++ count) c.put_numbered.result
    (Appends-trans _ _ _ (codes "TEXT ") end c.in_ok-put.ensures.ok
    (rw named at c.in_ok-put-2.ensures.ok)) (rw counted at c.put_numbered.ensures.front))
