-- Shows that a station was prepared, and then filled if it is to be kept; or that it has not begun.
use Rattle.std.proofs.Common.{rules, ◌≡◌, Err, IfErr, is_some, subst, sym}
use Rattle.bsc_options.specs.Words.{words_value}
use Rattle.bsc_attending.specs.Errors.{IsPreparingError, IsStoreError, IsUnbegun}
use Rattle.bsc_attending.specs.Preparing.{store_path}
use Rattle.bsc_attending.specs.Runs.{HasBegun}
use Rattle.bsc_attending.proofs.Begun.{has_begun}
use Rattle.bsc_attending.proofs.Outcomes.{unbegun_if_refused, unbegun_if_unprepared}
use Rattle.bsc_attending.proofs.stations.begin_station.Goals as goal

pub returns-in_err-ready-clause-unbegun : goal.returns-in_err-ready-clause-unbegun
returns-in_err-ready-clause-unbegun g c =
    let error = c.in_err-ready.field-0.0 in
    let is_error : c.from_residual.result ≡ Err error = search rules in
    let preparing : IsPreparingError error = search rules in
    subst (λ r. IfErr r IsUnbegun) (sym is_error) (unbegun_if_unprepared error preparing)

pub returns-in_err-keeper-clause-unbegun : goal.returns-in_err-keeper-clause-unbegun
returns-in_err-keeper-clause-unbegun g c =
    let error = c.in_err-keeper.field-0.0 in
    let is_error : c.from_residual-in_err-keeper.result ≡ Err error = search rules in
    let refused : IsStoreError error = search rules in
    subst (λ r. IfErr r IsUnbegun) (sym is_error) (unbegun_if_refused error refused)

pub returns-clause-begun : goal.returns-clause-begun
returns-clause-begun g c =
    let left = g.R.Read.remaining in
    let w = words_value c.args.words.now in
    let is_kept = is_some (store_path (words_value c.args.words.now)) in
    let speaker = c.args.options.now.settings.speaker in
    subst
    (λ forgets. HasBegun g.H.Store.Store w speaker forgets is_kept (left c.args.input.now)
    c.keeper_for.new.prepared c.in_ok-keeper.keeper)
    c.forgets_printed-forgets.ensures
    (has_begun g.H.Store.Store c.forgets_printed-forgets.result c.in_ok-ready.ready.prepared
    c.keeper_for.new.prepared c.in_ok-keeper.keeper w speaker (left c.args.input.now)
    (left c.prepare.new.input) is_kept c.in_ok-ready.ready.own c.in_ok-ready.ensures.ready
    c.in_ok-ready.ensures.kept c.keeper_for.ensures.kind c.in_ok-keeper.ensures.begins)
