-- The loop of `attend` extends the history by one step at a time, and counts the steps.
use Rattle.std.proofs.Common.{◌≡◌, [], true, false, Ok, Err, inl, inr, refl}
use Rattle.std.proofs.Common.{arith, rules}
use Rattle.bsc_connections.specs.declared.awaited.LiveError.{LiveError}
use Rattle.bsc_connections.specs.Attending.{ended, not_begun}
use Rattle.bsc_connections.proofs.Attendance.{attends_one_step, attends_with_step_first}
use Rattle.bsc_connections.proofs.Attendance.{goes_on_by_step, last_of_end, last_of_error}
use Rattle.bsc_connections.proofs.attending.attend.Goals as goal

pub steps-init : goal.steps-init
steps-init g c = record {
  extends = λ history last rest. (history, rest);
  counted = not_begun refl;
}

pub returns-in_err-step-clause-attends : goal.returns-in_err-step-clause-attends
returns-in_err-step-clause-attends g c =
    let (history, step) =
    attends_one_step _ _ c.step.result _ c.step.ensures.steps in
    c.steps.invariant.extends history _ step

pub returns-in_err-step-clause-by : goal.returns-in_err-step-clause-by
returns-in_err-step-clause-by g c =
    let error : LiveError = c.in_err-step.field-0.0 in
    let is : c.from_residual.result ≡ Err error = search rules in
    record {
      steps = c.steps.count;
      last = _;
      goes_on = c.steps.invariant.counted;
      ends = inr (
        c.step.result,
        c.step.ensures.steps,
        last_of_error c.step.result c.from_residual.result error c.in_err-step.was is,
      );
    }

pub returns-then-not-branch-clause-attends : goal.returns-then-not-branch-clause-attends
returns-then-not-branch-clause-attends g c =
    let (history, step) =
    attends_one_step _ _ c.step.result _ c.step.ensures.steps in
    c.steps.invariant.extends history _ step

pub returns-then-not-branch-clause-by : goal.returns-then-not-branch-clause-by
returns-then-not-branch-clause-by g c =
    let is : c.step.result ≡ Ok false = search rules in
    record {
      steps = c.steps.count;
      last = _;
      goes_on = c.steps.invariant.counted;
      ends = inr (c.step.result, c.step.ensures.steps, last_of_end c.step.result is);
    }

pub steps-preserved : goal.steps-preserved
steps-preserved g c =
    let is : c.step.result ≡ Ok true = search rules in
    record {
      extends = λ history last rest.
          let (whole, step) =
          attends_with_step_first _ c.step.result c.in_ok-step.was c.step.ensures.steps
          rest in
          c.steps.invariant.extends whole last step;
      counted = goes_on_by_step _ c.step.result is c.steps.invariant.counted c.step.ensures.steps;
    }

pub returns-clause-attends : goal.returns-clause-attends
returns-clause-attends g c = c.steps.invariant.extends [] _ (ended refl)

pub returns-clause-by : goal.returns-clause-by
returns-clause-by g c = record {
  steps = c.steps.count;
  last = _;
  goes_on = c.steps.invariant.counted;
  ends = inl (omega (arith, c.steps-test.false, c.steps.auto.count-end), refl, refl);
}
