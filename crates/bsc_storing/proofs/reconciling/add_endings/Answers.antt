-- Shows that the doubts of the channels of one more terminal are compared.
use Rattle.std.proofs.Common.{add-one}
use Rattle.bsc_storing.proofs.reconciling.add_endings.Goals as goal

pub terminals-preserved : goal.terminals-preserved
terminals-preserved g c =
    rw add-one (
      (c.terminals.step.items, (c.terminals.outcome.ended.items, c.terminals.outcome.unfit.items)),
      c.terminals.sender,
      c.terminals.receiver,
      c.terminals.invariant,
      c.in_ok-add_endings_at.ensures,
    )
