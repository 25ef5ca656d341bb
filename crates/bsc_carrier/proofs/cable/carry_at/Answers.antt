-- `carry_at` changes the two ends at its place, and returns each result when it is due; after an
-- error it changes nothing.
use Rattle.std.proofs.Common.{ℕ, List, refl, sym, ap, ◌∙◌, subst, Option, Result, Ok, Err}
use Rattle.std.specs.Result.{OnOk}
use Rattle.std.specs.Io.KnownBytes.{Appends}
use Rattle.std.proofs.lemmas.Option.{slice_get-get_or, get_or_from_slice_get}
use Rattle.std.proofs.lemmas.Result.{err_from_is_err_and, IfOk-from_err}
use Rattle.bsc_carrier.specs.Cable.{AnswersFor, Gives, Takes}
use Rattle.bsc_carrier.specs.Faults.{HasFailed}
use Rattle.bsc_carrier.proofs.Places.{stays_after_error}
use Rattle.bsc_carrier.proofs.Answered.{device_answers}
use Rattle.bsc_carrier.proofs.cable.carry_at.Goals as goal

on_ok_appends : {T E : Type 0} (r : Result T E) (old new : Option (List ℕ)) (octets : List ℕ)
    → Appends old new octets → OnOk r (Appends old new octets)
on_ok_appends (Ok x) old new octets appended = appended
on_ok_appends (Err e) old new octets appended = tt

pub returns-in_err-pass_error-clause-wrote : goal.returns-in_err-pass_error-clause-wrote
returns-in_err-pass_error-clause-wrote g c =
    stays_after_error c.from_residual.result (Takes g.S.Write.contents c.args.octets.now)
    c.args.near.now c.args.place c.requires.near_there c.from_residual.ensures.0

pub returns-in_err-pass_error-clause-read : goal.returns-in_err-pass_error-clause-read
returns-in_err-pass_error-clause-read g c =
    stays_after_error c.from_residual.result (Gives g.S.Read.remaining c.args.heard.now.items)
    c.args.far.now c.args.place c.requires.far_there c.from_residual.ensures.0

pub returns-in_err-pass_error-clause-exact : goal.returns-in_err-pass_error-clause-exact
returns-in_err-pass_error-clause-exact g c =
    let failed = c.in_err-pass_error.ensures in
    λ end here none. absurd (cc (failed, none))

pub returns-in_err-pass_error-clause-first_error : goal.returns-in_err-pass_error-clause-first_error
returns-in_err-pass_error-clause-first_error g c =
    let failed = c.in_err-pass_error.ensures in
    let p = err_from_is_err_and c.from_residual.result c.from_residual.ensures.1 in
    λ e first. (cc (p.1, p.2, failed, first), refl, refl)

pub returns-in_err-write_record-clause-read : goal.returns-in_err-write_record-clause-read
returns-in_err-write_record-clause-read g c =
    stays_after_error c.from_residual-in_err-write_record.result (Gives g.S.Read.remaining c.args.heard.now.items)
    c.args.far.now c.args.place c.requires.far_there c.from_residual-in_err-write_record.ensures.0

pub returns-clause-wrote : goal.returns-clause-wrote
returns-clause-wrote g c =
    let here =
    slice_get-get_or c.args.near.now c.args.place c.index-near-place.result
    c.requires.near_there in (
      _,
      c.write_record.new.writer,
      here,
      refl,
      on_ok_appends c.expect_record.result _ _ _ c.in_ok-write_record.ensures.ok,
    )

pub returns-clause-read : goal.returns-clause-read
returns-clause-read g c =
    let here =
    slice_get-get_or c.args.far.now c.args.place c.index-far-place.result
    c.requires.far_there in
    (_, c.expect_record.new.end, here, refl, c.expect_record.ensures.read)

pub returns-clause-exact : goal.returns-clause-exact
returns-clause-exact g c = λ end here none.
    subst (λ e. AnswersFor c.expect_record.result (g.S.Read.remaining e))
    (get_or_from_slice_get c.args.far.now c.args.place end _ here) c.expect_record.ensures.exact

pub returns-in_err-write_record-clause-wrote : goal.returns-in_err-write_record-clause-wrote
returns-in_err-write_record-clause-wrote g c =
    let here =
    slice_get-get_or c.args.near.now c.args.place c.index-near-place.result
    c.requires.near_there in (
      _,
      c.write_record.new.writer,
      here,
      refl,
      IfOk-from_err c.from_residual-in_err-write_record.result _ c.from_residual-in_err-write_record.ensures.0,
    )

pub returns-in_err-write_record-clause-exact : goal.returns-in_err-write_record-clause-exact
returns-in_err-write_record-clause-exact g c =
    let p = err_from_is_err_and c.from_residual-in_err-write_record.result c.from_residual-in_err-write_record.ensures.1 in
    let failed = subst HasFailed (sym (p.1 ∙ ap Err p.2)) c.in_err-write_record.ensures.err in
    λ end here none. device_answers _ _ failed

pub returns-in_err-write_record-clause-first_error : goal.returns-in_err-write_record-clause-first_error
returns-in_err-write_record-clause-first_error g c =
    let none = c.in_ok-pass_error.ensures in
    λ e first. absurd (cc (none, first))

pub returns-clause-first_error : goal.returns-clause-first_error
returns-clause-first_error g c =
    let none = c.in_ok-pass_error.ensures in
    λ e first. absurd (cc (none, first))
