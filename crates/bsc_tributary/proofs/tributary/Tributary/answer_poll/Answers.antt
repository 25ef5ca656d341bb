-- `answer_poll` is the row of a call of the polling address.
use Rattle.std.proofs.Common.{◌∙◌, sym, false}
use Rattle.bsc_bid.proofs.Telling.{told_step}
use Rattle.bsc_tributary.proofs.Acts.{mode_told, sent_told}
use Rattle.bsc_tributary.proofs.Calls.{poll_step_in_doubt, poll_step_empty, poll_step_begins}
use Rattle.bsc_tributary.proofs.Calls.{without_line_idle, stays_begun}
use Rattle.bsc_tributary.proofs.Stays.{stays_flags}
use Rattle.bsc_tributary.proofs.tributary.Tributary.answer_poll.Goals as goal
use Rattle.bsc_tributary.proofs.tributary.Tributary.answer_poll.Goals.{then-in_doubt-via-then-in_doubt}
use Rattle.bsc_tributary.proofs.tributary.Tributary.answer_poll.Goals.{then-in_doubt-via-else-in_doubt+then-not-has_waiting}

pub returns-then-in_doubt-clause-row : goal.returns-then-in_doubt-clause-row
returns-then-in_doubt-clause-row g c =
    rw c.set_eot.ensures (elim c.then-in_doubt.branch [
      | then-in_doubt-via-then-in_doubt w ↦ poll_step_in_doubt _ c.args.self.now
          (c.self.view_is ∙ c.drop_line.ensures.state) (sym c.in_doubt.ensures ∙ w.if-in_doubt.true)
      | then-in_doubt-via-else-in_doubt+then-not-has_waiting w ↦ poll_step_empty _ c.args.self.now
          (c.self.view_is ∙ c.drop_line.ensures.state)
          (sym c.in_doubt.ensures ∙ w.if-in_doubt.false)
          (sym w.has_waiting.ensures.value ∙ w.if-not-has_waiting.true)
    ])

pub begin-outcome-requires-clause-idle : goal.begin-outcome-requires-clause-idle
begin-outcome-requires-clause-idle g c =
    without_line_idle _ c.args.self.now (c.self.view_is ∙ c.drop_line.ensures.state)
    (sym c.in_doubt.ensures ∙ c.if-in_doubt.false)

pub invariant_of-self-2 : goal.invariant_of-self-2
invariant_of-self-2 g c =
    stays_begun _ _ c.perform.new.mode c.self.invariant
    (told_step _ _ _ _ _ c.begin-outcome.ensures.row)
    (mode_told _ _ _ _ _ _ _ c.begin-outcome.ensures.row c.perform.ensures.mode)
    (c.begin-outcome.ensures.ready c.self.invariant.ready)

pub returns-clause-row : goal.returns-clause-row
returns-clause-row g c = poll_step_begins _ c.args.self.now _ c.perform.new.mode c.perform.new.sent
    (c.self.view_is ∙ c.drop_line.ensures.state) (sym c.in_doubt.ensures ∙ c.if-in_doubt.false)
    (sym c.has_waiting.ensures.value ∙ c.if-not-has_waiting.false)
    (told_step _ _ _ _ _ c.begin-outcome.ensures.row)
    (mode_told _ _ _ _ _ _ _ c.begin-outcome.ensures.row c.perform.ensures.mode)
    (sent_told _ _ _ _ _ _ c.begin-outcome.ensures.row c.perform.ensures.sent)

pub returns-then-in_doubt-clause-tributary : goal.returns-then-in_doubt-clause-tributary
returns-then-in_doubt-clause-tributary g c =
    stays_flags _ c.self.inside.ready false c.self.inside.receiver c.self.invariant

pub returns-clause-tributary : goal.returns-clause-tributary
returns-clause-tributary g c =
    stays_begun _ _ c.perform.new.mode c.self.invariant
    (told_step _ _ _ _ _ c.begin-outcome.ensures.row)
    (mode_told _ _ _ _ _ _ _ c.begin-outcome.ensures.row c.perform.ensures.mode)
    (c.begin-outcome.ensures.ready c.self.invariant.ready)
