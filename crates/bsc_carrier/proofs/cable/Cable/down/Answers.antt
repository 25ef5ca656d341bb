-- `down` writes at all ends of one side and reads at all ends of the other; each error has its
-- cause.
use Rattle.std.proofs.Common.{length, refl, sym, ap, ◌∙◌, subst}
use Rattle.std.proofs.lemmas.Result.{err_from_is_err_and}
use Rattle.std.specs.Prelude.{IfErr}
use Rattle.bsc_carrier.specs.Cable.{Takes, Gives, Explains}
use Rattle.bsc_carrier.proofs.Places.{all_written_back, written_back_length, counts_written_back}
use Rattle.bsc_carrier.proofs.cable.Cable.down.Goals as goal

pub returns-in_err-pass_error-clause-why : goal.returns-in_err-pass_error-clause-why
returns-in_err-pass_error-clause-why g c =
    let failed = c.in_err-pass_error.ensures in
    let kept = ap (λ v. v.fault) c.self.view_is in
    λ none. absurd (cc (failed, kept, none))

pub returns-in_err-pass_error-clause-first_error : goal.returns-in_err-pass_error-clause-first_error
returns-in_err-pass_error-clause-first_error g c =
    let failed = c.in_err-pass_error.ensures in
    let kept = ap (λ v. v.fault) c.self.view_is in
    let p = err_from_is_err_and c.from_residual.result c.from_residual.ensures.1 in
    λ e first. (cc (p.1, p.2, failed, kept, first), refl {a = c.args.self.now})

pub returns-in_err-pass_error-clause-fault : goal.returns-in_err-pass_error-clause-fault
returns-in_err-pass_error-clause-fault g c =
    let failed = c.in_err-pass_error.ensures in
    let kept = ap (λ v. v.fault) c.self.view_is in
    let p = err_from_is_err_and c.from_residual.result c.from_residual.ensures.1 in
    rw (p.1, p.2) (sym kept ∙ sym failed)

pub invariant_of-self : goal.invariant_of-self
invariant_of-self g c =
    counts_written_back _ _ c.self.inside.control_ends.items c.self.inside.terminal_ends.items
    c.carry_down-result.new.near c.carry_down-result.new.far _ _
    (ap length (sym c.as_mut_slice.ensures.value) ∙ c.as_mut_slice.ensures.len)
    (ap length (sym c.as_mut_slice-2.ensures.value) ∙ c.as_mut_slice-2.ensures.len)
    (c.carry_down-result.auto.near ∙ c.as_mut_slice.ensures.len)
    (c.carry_down-result.auto.far ∙ c.as_mut_slice-2.ensures.len) c.self.invariant

pub returns-clause-wrote : goal.returns-clause-wrote
returns-clause-wrote g c =
    all_written_back c.carry_down-result.result (Takes g.S.Write.contents c.args.octets.now) _ _ _ _
    _ (c.as_mut_slice.ensures.value ∙ ap (λ v. v.control_ends) c.self.view_is)
    (c.carry_down-result.auto.near ∙ c.as_mut_slice.ensures.len) c.carry_down-result.ensures.wrote

pub returns-clause-read : goal.returns-clause-read
returns-clause-read g c =
    all_written_back c.carry_down-result.result
    (Gives g.S.Read.remaining c.carry_down-result.new.heard.items) _ _ _ _ _
    (c.as_mut_slice-2.ensures.value ∙ ap (λ v. v.terminal_ends) c.self.view_is)
    (c.carry_down-result.auto.far ∙ c.as_mut_slice-2.ensures.len) c.carry_down-result.ensures.read

pub returns-clause-control_count : goal.returns-clause-control_count
returns-clause-control_count g c =
    let lent = c.as_mut_slice.ensures in
    written_back_length _ c.carry_down-result.new.near _
    (c.carry_down-result.auto.near ∙ lent.len) ∙ sym lent.len
    ∙ ap length (lent.value ∙ ap (λ v. v.control_ends) c.self.view_is)

pub returns-clause-terminal_count : goal.returns-clause-terminal_count
returns-clause-terminal_count g c =
    let lent = c.as_mut_slice-2.ensures in
    written_back_length _ c.carry_down-result.new.far _
    (c.carry_down-result.auto.far ∙ lent.len) ∙ sym lent.len
    ∙ ap length (lent.value ∙ ap (λ v. v.terminal_ends) c.self.view_is)

pub returns-clause-why : goal.returns-clause-why
returns-clause-why g c =
    let same = c.as_mut_slice-2.ensures.value ∙ ap (λ v. v.terminal_ends) c.self.view_is in
    λ none. subst (λ l. IfErr c.carry_down-result.result (λ e. Explains g.S.Read.remaining e l))
    same c.carry_down-result.ensures.why

pub returns-clause-first_error : goal.returns-clause-first_error
returns-clause-first_error g c =
    let none = c.in_ok-pass_error.ensures in
    let kept = ap (λ v. v.fault) c.self.view_is in
    λ e first. absurd (cc (none, kept, first))
