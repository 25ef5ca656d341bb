-- A recall that is refused changes nothing.
use Rattle.std.proofs.Common.{rules, sym, refl, ◌≡◌, ◌∙◌}
use Rattle.bsc_bid.specs.Stored.{recall_step}
use Rattle.bsc_tributary.specs.Tributary.{TributaryValue}
use Rattle.bsc_tributary.specs.Stored.{after_recall}
use Rattle.bsc_bid.specs.declared.kept.KeptSender.{KeptSender}
use Rattle.bsc_embed.proofs.terminal_calls.keeping.recall.Goals as goal

unchanged : (t : TributaryValue) (k : KeptSender)
    → (recall_step t.sender t.queue k).sender ≡ t.sender
    → (recall_step t.sender t.queue k).queue ≡ t.queue
    → after_recall t k ≡ t
unchanged t k sender queue = rw (sender, queue) refl

pub returns-in_err-recall : goal.returns-in_err-recall
returns-in_err-recall c =
    let sender : _ = c.refusals_change_nothing.ensures.recall_sender c.terminal.inside.station.sender
    c.terminal.inside.station.queue c.kept.result _ (sym c.in_err-recall.ensures.answer) in
    let queue : _ = c.refusals_change_nothing.ensures.recall_queue c.terminal.inside.station.sender
    c.terminal.inside.station.queue c.kept.result _ (sym c.in_err-recall.ensures.answer) in
    let same : _ = unchanged c.terminal.inside.station c.kept.result sender queue in
    let is : _ = c.recall.ensures.state ∙ same in
    record {
      answered = search rules;
      state = c.recall.ensures.state ∙ (λ i. after_recall (c.terminal.view_is i) (c.kept.ensures i));
      refused = search (rules, is);
    }
