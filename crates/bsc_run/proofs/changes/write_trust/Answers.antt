-- The time and the text of the line for the end of trust are written one after the other.
use Rattle.std.proofs.Common.{append_assoc, codes, subst, sym}
use Rattle.std.specs.Prelude.{OnOk}
use Rattle.std.specs.Io.KnownBytes.{Appends}
use Rattle.bsc_text.specs.Traces.{time_shown}
use Rattle.bsc_run.proofs.Appending.{two_on_ok}
use Rattle.bsc_run.proofs.changes.write_trust.Goals as goal

pub returns-in_ok-write_time : goal.returns-in_ok-write_time
returns-in_ok-write_time g c =
    let written =
    two_on_ok _ _ _ _ _ c.put.result c.in_ok-write_time.ensures.ok c.put.ensures.ok in
    let joined =
    append_assoc (time_shown c.args.number) (codes "the line is no longer trusted") (codes "\n") in
    rw (c.if-before.true, c.if-not-trusted.true)
    (subst (λ text. OnOk c.put.result (Appends (g.W.Write.contents c.args.out.now)
    (g.W.Write.contents c.put.new.out) text)) (sym joined) written)
