-- The addresses that `new` accepts are those of a terminal, and the table holds them.
use Rattle.std.proofs.Common.{arith}
use Rattle.bsc_bid.proofs.Selecting.{holds_selects}
use Rattle.bsc_bid.proofs.terminal.Terminal.new.Goals as goal

pub invariant_of-result : goal.invariant_of-result
invariant_of-result c =
    rw c.copy_from_slice.ensures.after
    (holds_selects c.args.poll c.args.selects.now (omega arith) (omega arith))
