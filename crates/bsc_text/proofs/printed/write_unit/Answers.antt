-- Shows what is written of the line for a unit after a failure.
use Rattle.std.proofs.Common.{◌≡◌, [], ◌∷◌, ◌++◌, codes}
use Rattle.std.proofs.KnownBytes.{Appends-trans}
use Rattle.bsc_text.specs.Names.{chars_shown, em_shown}
use Rattle.bsc_text.proofs.Fronts.{for_err, front_after, front_after_on_err, front_within}
use Rattle.bsc_text.proofs.Fronts.{front_within_err}
use Rattle.bsc_text.proofs.printed.write_unit.Goals as goal

pub returns-in_err-put-clause-front : goal.returns-in_err-put-clause-front
returns-in_err-put-clause-front g c =
    front_within_err _ _ (codes "unit ")
    (chars_shown c.args.unit.chars.now ++ em_shown c.args.unit.em ++ 10 ∷ [])
    c.from_residual.result c.in_err-put.ensures.front

pub returns-in_err-write_chars-clause-front : goal.returns-in_err-write_chars-clause-front
returns-in_err-write_chars-clause-front g c =
    let chars = chars_shown c.args.unit.chars.now in
    let em = em_shown c.args.unit.em in
    for_err c.from_residual-in_err-write_chars.result
    (front_within _ _ (codes "unit " ++ chars ++ em) (10 ∷ [])
    (front_within _ _ (codes "unit " ++ chars) em
    (front_after _ _ _ (codes "unit ") chars c.in_ok-put.ensures.ok
    c.in_err-write_chars.ensures.front)))

pub returns-in_err-put-2-clause-front : goal.returns-in_err-put-2-clause-front
returns-in_err-put-2-clause-front g c =
    let chars = chars_shown c.args.unit.chars.now in
    let em = em_shown c.args.unit.em in
    for_err c.from_residual-in_err-put-2.result
    (front_within _ _ (codes "unit " ++ chars ++ em) (10 ∷ [])
    (front_after _ _ _ (codes "unit " ++ chars) em
    (Appends-trans _ _ _ (codes "unit ") chars c.in_ok-put.ensures.ok
    c.in_ok-write_chars.ensures.ok) (rw c.em_mark.ensures at c.in_err-put-2.ensures.front)))

pub returns-clause-front : goal.returns-clause-front
returns-clause-front g c =
    let chars = chars_shown c.args.unit.chars.now in
    let em = em_shown c.args.unit.em in
    front_after_on_err _ _ _ (codes "unit " ++ chars ++ em) (10 ∷ []) c.put-3.result
    (Appends-trans _ _ _ (codes "unit " ++ chars) em
    (Appends-trans _ _ _ (codes "unit ") chars c.in_ok-put.ensures.ok
    c.in_ok-write_chars.ensures.ok) (rw c.em_mark.ensures at c.in_ok-put-2.ensures.ok))
    c.put-3.ensures.front
