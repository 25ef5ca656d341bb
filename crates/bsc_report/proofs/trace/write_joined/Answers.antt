-- The name of the connection is written, and then the end of the line.
use Rattle.std.proofs.Common.{List, ℕ, subst}
use Rattle.std.specs.Io.KnownBytes.{Appends}
use Rattle.std.proofs.KnownBytes.{Appends-trans}
use Rattle.bsc_report.proofs.trace.write_joined.Goals as goal

pub returns-clause-ok : goal.returns-clause-ok
returns-clause-ok g c =
    Appends-trans _ _ _ _ _ c.in_ok-write_connection.ensures.ok
    (subst (λ (text : List ℕ). Appends (g.W.Write.contents c.write_connection.new.out)
    (g.W.Write.contents c.put.new.out) text) c.joined_text.ensures c.in_ok-put.ensures.ok)
