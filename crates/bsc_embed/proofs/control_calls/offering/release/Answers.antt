-- A release that is refused leaves the station as it was.
use Rattle.std.proofs.Common.{rules, sym, inl, ◌∙◌}
use Rattle.bsc_control.specs.Kept.{outbound_of}
use Rattle.bsc_embed.proofs.Refused.{release_changes_nothing}
use Rattle.bsc_embed.proofs.control_calls.offering.release.Goals as goal

pub returns-in_err-release : goal.returns-in_err-release
returns-in_err-release c =
    let side : _ = outbound_of c.args.control.now c.args.terminal c.args.select in
    let sender : _ = c.refusals_change_nothing.ensures.release_sender side.sender side.queue
    c.args.count _ (sym c.in_err-release.ensures.answer) in
    let queue : _ = c.refusals_change_nothing.ensures.release_queue side.sender side.queue
    c.args.count _ (sym c.in_err-release.ensures.answer) in
    let is : _ = c.release.ensures.state
    ∙ release_changes_nothing c.args.control.now c.args.terminal c.args.select c.args.count
    sender queue in
    inl (record {
      address = search rules;
      answered = search rules;
      state = c.release.ensures.state;
      refused = search (rules, is);
    })
