-- Shows that the loop reads each line in turn, and ends with the events of the whole text.
use Rattle.std.proofs.Common.{◌≡◌, ◌+◌, ◌∷◌, [], map, sym, ap, ◌∙◌, arith}
use Rattle.std.specs.Str.Lines.{strip_carriage_return}
use Rattle.bsc_text.specs.InputLines.{lines_of}
use Rattle.bsc_config.proofs.Scripts.{all_read, keep_line, take_line}
use Rattle.bsc_config.proofs.script.script.read_script.Goals as goal
use Rattle.bsc_config.proofs.script.script.read_script.Goals.{then-not-is_skipped+in_ok-read_step+in_ok-push}
use Rattle.bsc_config.proofs.script.script.read_script.Goals.{else-not-is_skipped}

pub returns-in-None-clause-ok : goal.returns-in-None-clause-ok
returns-in-None-clause-ok g c =
    let lines : lines_of c.lines.left.now ≡ c.without_return-line.result.now ∷ [] =
    ap (map strip_carriage_return) (c.split_line.ensures.last c.in-None.is)
    ∙ ap (λ l. l ∷ []) (sym c.without_return-line.ensures) in
    let here = rw lines at c.lines.invariant.events in
    elim c.if-not-is_skipped.branch [
      | then-not-is_skipped+in_ok-read_step+in_ok-push w ↦
          all_read _ (c.lines.before + 1 + 1)
          (take_line c.lines.steps.items c.if-not-is_skipped.steps.items
          w.in_ok-read_step.field-0 (c.lines.before + 1) c.without_return-line.result.now []
          here
          (sym c.is_skipped.ensures ∙ w.if-not-is_skipped.true) w.in_ok-read_step.ensures.line
          w.in_ok-read_step.ensures.event (rw w.steps-is w.in_ok-push.ensures.items))
      | else-not-is_skipped w ↦
          all_read _ (c.lines.before + 1 + 1)
          (keep_line c.lines.steps.items c.if-not-is_skipped.steps.items (c.lines.before + 1)
          c.without_return-line.result.now [] here
          (sym c.is_skipped.ensures ∙ w.if-not-is_skipped.false) (ap (λ v. v.items) w.steps-is))
    ]

pub lines-preserved : goal.lines-preserved
lines-preserved g c =
    let lines : lines_of c.lines.left.now ≡ c.without_return-line.result.now
    ∷ lines_of c.in-Some.rest.now =
    ap (map strip_carriage_return) (rw c.in-Some.is at c.split_line.ensures.more)
    ∙ ap (λ l. l ∷ lines_of c.in-Some.rest.now) (sym c.without_return-line.ensures) in
    let here = rw lines at c.lines.invariant.events in
    let long = rw c.in-Some.is at c.split_line.ensures.length in
    record {
      events = elim c.if-not-is_skipped.branch [
        | then-not-is_skipped+in_ok-read_step+in_ok-push w ↦
            (take_line c.lines.steps.items c.if-not-is_skipped.steps.items w.in_ok-read_step.field-0
            (c.lines.before + 1) c.without_return-line.result.now (lines_of c.in-Some.rest.now)
            here
            (sym c.is_skipped.ensures ∙ w.if-not-is_skipped.true) w.in_ok-read_step.ensures.line
            w.in_ok-read_step.ensures.event (rw w.steps-is w.in_ok-push.ensures.items))
        | else-not-is_skipped w ↦
            (keep_line c.lines.steps.items c.if-not-is_skipped.steps.items (c.lines.before + 1)
            c.without_return-line.result.now (lines_of c.in-Some.rest.now) here
            (sym c.is_skipped.ensures ∙ w.if-not-is_skipped.false) (ap (λ v. v.items) w.steps-is))
      ];
      counted = omega (arith, long);
    }
