use Rattle.std.proofs.Common.{◌≡◌, drop, IsTrue}
use Rattle.sqlite.specs.State.{HasCleanDisk, KeepsCommit, Survives}
use Rattle.sqlite.specs.Held.{Held, state}
use Rattle.bsc_store.specs.Checks.{marks_after_all}
use Rattle.bsc_store.specs.Tables.{RanAll}
use Rattle.bsc_store.proofs.writing.write_all.Given as goal

-- what runs of the rest from here is a run of the whole from the start
abbrev pub invariant-loop-change : goal.invariant-loop-change
invariant-loop-change g l =
    let first = l.fn.tx.conn.now in
    let now = l.tx.conn.now in
    record {
      same : l.tx.conn.ghost_name ≡ l.fn.tx.conn.ghost_name;
      survives : Survives (state g.S.Store first) (state g.S.Store now) (λ _. ⊥);
      kept : HasCleanDisk (state g.S.Store now) → IsTrue first.in_transaction → KeepsCommit (state g.S.Store first) (state g.S.Store now);
      goes_on : HasCleanDisk (state g.S.Store now) → IsTrue first.in_transaction → IsTrue now.in_transaction;
      marks : marks_after_all (drop l.change-index l.step) l.last ≡ marks_after_all l.step l.fn.marks;
      ran : HasCleanDisk (state g.S.Store now) → IsTrue first.in_transaction → (last : Held g.row.S.Denot) → RanAll g.S.Store l.last (drop l.change-index l.step) now last → RanAll g.S.Store l.fn.marks l.step first last;
    }
