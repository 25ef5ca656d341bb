-- `read_same` reads the same record at every end; each error has its cause.
use Rattle.std.proofs.Common.{subst, drop}
use Rattle.std.proofs.lemmas.Result.{err_from_is_err_and}
use Rattle.std.specs.List.{AllZip, Any}
use Rattle.std.specs.Prelude.{IfSome}
use Rattle.bsc_carrier.specs.Front.{IsPartial, HasWrongLength}
use Rattle.bsc_carrier.specs.Cable.{Gives, BeginsOther}
use Rattle.bsc_carrier.proofs.Places.{ends_after, AllZip-first_and_later}
use Rattle.bsc_carrier.proofs.Explained.{begins_with_given, explains_first, explains_later}
use Rattle.bsc_carrier.proofs.cable.read_same.Goals as goal

pub returns-in_err-expect_record-clause-why : goal.returns-in_err-expect_record-clause-why
returns-in_err-expect_record-clause-why g c =
    let p =
    err_from_is_err_and c.from_residual.result
    c.from_residual.ensures.1 in
    rw (p.1, p.2) (explains_first g.S.Read.remaining c.args.ends.now _ _ c.requires
    c.in_err-expect_record.ensures.exact)

pub returns-in_err-expect_same-clause-why : goal.returns-in_err-expect_same-clause-why
returns-in_err-expect_same-clause-why g c =
    let remaining = g.S.Read.remaining in
    let ends = c.args.ends.now in
    let first = c.in_ok-expect_record.ensures in
    let later = ends_after ends c.expect_record.new.end in
    let same = c.deref.ensures.0 in
    let told = c.in_err-expect_same.ensures in
    let p =
    err_from_is_err_and c.from_residual-in_err-expect_same.result
    c.from_residual-in_err-expect_same.ensures.1 in
    rw (p.1, p.2) (explains_later remaining ends _ _ _ c.requires
    (begins_with_given _ _ _ first.carried first.read)
    (λ e. subst (Any (λ end. IfSome (remaining end) HasWrongLength)) later (told.wrong e))
    (λ e. subst (Any (λ end. IfSome (remaining end) IsPartial)) later (told.short e))
    (λ e. subst (λ l. BeginsOther remaining l (drop 1 ends)) same
    (subst (BeginsOther remaining c.deref.result.now) later (told.unequal e))))

pub returns-clause-read : goal.returns-clause-read
returns-clause-read g c =
    let gives = Gives g.S.Read.remaining in
    let ends = c.args.ends.now in
    let later =
    subst (λ l. AllZip (gives c.deref.result.now) l c.expect_same.new.ends)
    (ends_after ends c.expect_record.new.end) c.in_ok-expect_same.ensures.read in
    let first = c.expect_record.new.octets.items in
    let all =
    AllZip-first_and_later (gives first) ends c.expect_same.new.ends c.expect_record.new.end _
    c.requires c.in_ok-expect_record.ensures.read
    (subst (λ l. AllZip (gives l) (drop 1 ends) c.expect_same.new.ends) c.deref.ensures.0 later) in
    rw c.swap.ensures.x_after all
