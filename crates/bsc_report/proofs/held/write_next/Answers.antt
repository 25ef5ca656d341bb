-- The line that was held back is written or dropped, and then the line for the event.
use Rattle.std.proofs.Common.{◌≡◌, rules}
use Rattle.bsc_connections.specs.Notes.{told_by}
use Rattle.bsc_report.specs.Holding.{drops_held, has_no_line}
use Rattle.bsc_report.proofs.held.write_next.Goals as goal

pub returns-clause-traced : goal.returns-clause-traced
returns-clause-traced g c =
    let seen = c.args.seen in
    let happening = told_by c.args.note.now in
    let dropped : c.drops-is_dropped.result ≡ drops_held seen.calls seen.time happening =
    search rules in
    let none : c.lacks_line-has_none.result
    ≡ has_no_line c.args.held.now seen.calls seen.time happening = search rules in
    record {
      between = g.W.Write.contents c.release.new.out;
      held_line = rw dropped at c.in_ok-release.ensures;
      own_line = rw none at c.in_ok-write_unless.ensures;
    }
