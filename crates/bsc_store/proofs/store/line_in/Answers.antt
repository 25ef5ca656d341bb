use Rattle.std.proofs.Common.{◌≡◌, string_bytes, subst, rules}
use Rattle.bsc_store.specs.Reading.{IsStoreOf}
use Rattle.bsc_store.proofs.store.line_in.Goals as goal

pub returns-clause-is : goal.returns-clause-is
returns-clause-is g c last =
    let same : c.as_str.result.now ≡ string_bytes c.in_ok-line.line = search rules in
    (c.line_text.new.conn, subst (λ text. IsStoreOf g.S.Store text c.in_ok-marks.marks c.line_text.new.conn c.check.new.conn) same (c.in_ok-marks.ensures.is last))
