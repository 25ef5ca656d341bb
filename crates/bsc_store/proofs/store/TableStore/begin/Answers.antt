use Rattle.std.proofs.Common.{arith, refl}
use Rattle.sqlite.specs.State.{HasCleanDisk}
use Rattle.sqlite.specs.Held.{state}
use Rattle.bsc_store.proofs.store.TableStore.begin.Goals as goal

pub returns-in-Ok : goal.returns-in-Ok
returns-in-Ok g c = record {
  made = λ clean.
      let first : HasCleanDisk (state g.S.Store c.number.new.conn) = omega (arith, c.make.ensures.crash.clean) in
      (c.number.new.conn, rw c.if-branch-ne0.false at (c.in_ok-number.ensures.number first), c.in-Ok.ensures.made);
  marks = refl;
}
