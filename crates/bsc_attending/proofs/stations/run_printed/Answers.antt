-- Shows that a station without a store ran as it was attended.
use Rattle.std.proofs.Common.{rules, IsErr}
use Rattle.bsc_attending.proofs.Ran.{prepared_printed, printed_still}
use Rattle.bsc_attending.proofs.stations.run_printed.Goals as goal

pub returns-in_err-printed-clause-printed : goal.returns-in_err-printed-clause-printed
returns-in_err-printed-clause-printed g c =
    let is_err : IsErr c.from_residual.result = search rules in
    printed_still _ _ c.args.prepared.now (IsErr c.from_residual.result) is_err

pub returns-then-options-clause-printed : goal.returns-then-options-clause-printed
returns-then-options-clause-printed g c =
    prepared_printed _ _ c.in_ok-printed.printed c.attend_over.new.kept (IsErr c.attend_over.result)
    c.args.prepared.now c.attend_over.new.prepared c.attend_over.ensures.ran

pub returns-clause-printed : goal.returns-clause-printed
returns-clause-printed g c =
    prepared_printed _ _ c.in_ok-printed.printed c.attend_over-else-options.new.kept
    (IsErr c.attend_over-else-options.result) c.args.prepared.now
    c.attend_over-else-options.new.prepared c.attend_over-else-options.ensures.ran
