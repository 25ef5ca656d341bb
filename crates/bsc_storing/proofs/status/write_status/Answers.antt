-- Shows that the lines of one more terminal are printed.
use Rattle.std.proofs.Common.{add-one}
use Rattle.bsc_storing.proofs.status.write_status.Goals as goal

pub terminals-preserved : goal.terminals-preserved
terminals-preserved g c =
    rw add-one (
      c.terminals.store,
      g.W.Write.contents c.terminals.out,
      c.terminals.invariant,
      c.in_ok-write_terminal.ensures,
    )
