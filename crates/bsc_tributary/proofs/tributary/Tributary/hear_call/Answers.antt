-- `hear_call` is the row of a call.
use Rattle.std.proofs.Common.{subst, None}
use Rattle.bsc_frame.specs.declared.message.Message.TheVariants.{Call}
use Rattle.bsc_frame.specs.declared.message.Heard.TheVariants.{Whole}
use Rattle.bsc_tributary.specs.Tributary.{Hears}
use Rattle.bsc_tributary.specs.Kept.{IsTributary}
use Rattle.bsc_tributary.proofs.Hearing.{holds_after_hearing}
use Rattle.bsc_tributary.proofs.CallsHeard.{called_from, hears_polling, hears_selection}
use Rattle.bsc_tributary.proofs.CallsHeard.{other_call_is_heard, within_selects}
use Rattle.bsc_tributary.proofs.tributary.Tributary.hear_call.Goals as goal

pub answer_selection-requires : goal.answer_selection-requires
answer_selection-requires g c =
    within_selects c.args.self.now.terminal c.args.address.now c.in-Selection.select
    (called_from _ c.args.self.now _ _ _ c.self.view_is c.in-Selection.is c.called_address.ensures)

pub returns-in-Polling : goal.returns-in-Polling
returns-in-Polling g c =
    let hears : Hears c.args.self.now (Whole (Call c.args.address.now)) c.answer_poll.new.self
    c.answer_poll.new.sent =
    hears_polling c.args.self.now c.answer_poll.new.self c.args.address.now c.answer_poll.new.sent
    (called_from _ c.args.self.now _ _ _ c.self.view_is c.in-Polling.is c.called_address.ensures)
    c.answer_poll.ensures.row in
    record {
      row = hears;
      after = holds_after_hearing _ _ _ _
          (subst IsTributary c.self.view_is c.self.invariant) c.answer_poll.ensures.tributary hears;
    }

pub returns-in-Selection : goal.returns-in-Selection
returns-in-Selection g c =
    let hears : Hears c.args.self.now (Whole
    (Call c.args.address.now)) c.answer_selection.new.self c.answer_selection.new.sent =
    hears_selection c.args.self.now c.answer_selection.new.self c.args.address.now
    c.in-Selection.select c.answer_selection.new.sent
    (called_from _ c.args.self.now _ _ _ c.self.view_is c.in-Selection.is c.called_address.ensures)
    c.answer_selection.ensures.row c.answer_selection.ensures.room in
    record {
      row = hears;
      after = holds_after_hearing _ _ _ _
          (subst IsTributary c.self.view_is c.self.invariant) c.answer_selection.ensures.tributary
          hears;
    }

pub returns-in-Other : goal.returns-in-Other
returns-in-Other g c =
    let hears : Hears c.args.self.now (Whole (Call c.args.address.now)) c.drop_line.new.self None =
    other_call_is_heard c.args.self.now c.drop_line.new.self c.args.address.now
    (called_from _ c.args.self.now _ _ _ c.self.view_is c.in-Other.is c.called_address.ensures)
    c.drop_line.ensures.state in
    rw c.clear.ensures (record {
      row = hears;
      after = holds_after_hearing _ _ _ _
          (subst IsTributary c.self.view_is c.self.invariant)
          c.drop_line.ensures.hearing.after.tributary hears;
    })
