-- A recall that is refused leaves the station as it was.
use Rattle.std.proofs.Common.{rules, sym, inl, ◌∙◌}
use Rattle.bsc_embed.proofs.Refused.{recall_changes_nothing}
use Rattle.bsc_embed.proofs.control_calls.keeping.recall.Goals as goal

pub returns-in_err-recall : goal.returns-in_err-recall
returns-in_err-recall c =
    let is : _ = c.recall.ensures.state
    ∙ recall_changes_nothing c.refusals_change_nothing.ensures.recall_sender
    c.refusals_change_nothing.ensures.recall_queue c.args.control.now c.args.control.now.task
    c.args.terminal c.args.select c.kept.result _ (sym c.in_err-recall.ensures.answer) in
    inl (record {
      address = search rules;
      answered = search rules;
      state = rw (sym c.kept.ensures) c.recall.ensures.state;
      refused = search (rules, is);
    })
