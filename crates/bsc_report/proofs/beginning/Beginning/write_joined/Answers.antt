-- The start of the line is written, and then the rest of it.
use Rattle.std.proofs.Common.{Some, false}
use Rattle.std.proofs.KnownBytes.{Appends-trans}
use Rattle.bsc_report.specs.Traces.{joined_line, start_shown}
use Rattle.bsc_report.proofs.beginning.Beginning.write_joined.Goals as goal

pub returns-clause-ok : goal.returns-clause-ok
returns-clause-ok g c =
    Appends-trans (g.W.Write.contents c.args.out.now) (g.W.Write.contents c.write_start.new.out)
    (g.W.Write.contents c.write_joined.new.out) (start_shown c.args.self.trace)
    (joined_line c.args.place (Some c.args.peer) false) c.in_ok-write_start.ensures.ok
    c.in_ok-write_joined.ensures.ok
