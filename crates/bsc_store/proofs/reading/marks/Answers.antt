use Rattle.std.proofs.Common.{◌≡◌, inl, inr, arith}
use Rattle.sqlite.specs.State.{HasCleanDisk}
use Rattle.sqlite.specs.Held.{state}
use Rattle.bsc_store.proofs.reading.marks.Goals as goal

pub returns-clause-are : goal.returns-clause-are
returns-clause-are g c last =
    let two : c.args.version ≡ 2 = elim c.requires [
      | inl one ↦ omega (arith, c.if-version-eq-UNCHECKED.false, one)
      | inr is ↦ is
    ] in
    let first : HasCleanDisk (state g.S.Store c.number.new.conn) = omega (arith, c.number-2.ensures.read.crash.clean) in
    (two, c.number.new.conn, c.in_ok-offered.ensures.number first, c.in_ok-arrived.ensures.number last)
