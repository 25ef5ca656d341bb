-- Shows that nothing is printed without a reader.
use Rattle.bsc_trace.proofs.Printed.{stopped_unread}
use Rattle.bsc_trace.proofs.naming.naming.write_input.Goals as goal

pub returns-in-Err-clause-stopped : goal.returns-in-Err-clause-stopped
returns-in-Err-clause-stopped g c =
    stopped_unread c.args.detail (g.W.Write.contents c.args.out.now)
    (g.R.Read.remaining c.args.input.now)
