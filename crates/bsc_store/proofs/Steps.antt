-- What a statement of a step leaves.
use Rattle.std.proofs.Common.{◌≡◌, ◌+◌, ◌<◌, ℕ, suc, List, ◌∷◌, length, drop, get_or, drop-cons, inl, inr, ◌∙◌, IsTrue, Option, Result, Ok, Err, OnOk, OnErr, sym, subst, subst₂, arith}
use Rattle.sqlite.specs.Store.{Ghosts}
use Rattle.sqlite.specs.Order.{Row}
use Rattle.sqlite.specs.declared.error.Error.{Error}
use Rattle.sqlite.specs.State.{State, Executes, ExecutesInside, IsRolledBack, KeepsCommit}
use Rattle.sqlite.specs.Held.{Held, state}
use Rattle.sqlite.specs.Steps.{FailsToCommit}
use Rattle.bsc_spool.specs.declared.change.Change.{Change}
use Rattle.bsc_store.specs.declared.checks.Marks.{Marks}
use Rattle.bsc_store.specs.Tables.{text_of, values_of, Ran}

-- What ran inside a transaction ran, under equal text and values.
pub executed : (text text' : List ℕ) (values values' : Row) (old new : State) (count : ℕ)
    → text ≡ text' → values ≡ values' → ExecutesInside 0 text values old new (Ok count)
    → Executes text' values' old new (Ok count)
executed text text' values values' old new count is given h =
    subst₂ (λ t v. Executes t v old new (Ok count)) is given h.0

-- What ran inside a transaction is what the change asks for.
pub ran_inside : {S : Type 0} (g : Ghosts S) (marks : Option Marks) (change : Change)
    (text : List ℕ) (values : Row) (old new : Held S) (result : Result ℕ Error)
    → text ≡ text_of change marks → values ≡ values_of change marks
    → ExecutesInside 0 text values (state g old) (state g new) result
    → OnOk result (Ran g marks change old new)
ran_inside g marks change text values old new (Err fault) is given h = tt
ran_inside g marks change text values old new (Ok count) is given h = record {
  count = count;
  runs = executed text _ values _ _ _ count is given h;
  goes_on = h.1.mode;
}

-- What is left from a place on begins with what stands there.
pub rest_from : {X : Type 0} (xs : List X) (at : ℕ) (x : X) → at < length xs → x ≡ get_or xs at x
    → x ∷ drop (at + 1) xs ≡ drop at xs
rest_from xs at x within is =
    let plus : suc at ≡ at + 1 = omega arith in
    let whole = sym (drop-cons xs at x within) in
    subst (λ n. x ∷ drop n xs ≡ drop at xs) plus
    (subst (λ y. y ∷ drop (suc at) xs ≡ drop at xs) (sym is) whole)

-- Nothing is committed inside a transaction.
pub keeps_inside : (text : List ℕ) (values : Row) (old new : State) (result : Result ℕ Error)
    → ExecutesInside 0 text values old new result → KeepsCommit old new
keeps_inside text values old new (Ok count) h =
    record { was_open = λ _. h.1.was_open; committed = λ _. h.1.committed_is }
keeps_inside text values old new (Err fault) (inl (_, inl same)) =
    record { was_open = λ _. same.0.was_open; committed = λ _. same.0.committed_is }
keeps_inside text values old new (Err fault) (inl (_, inr back)) =
    record { was_open = back.was_open; committed = λ h. (back.undone h).1 }
keeps_inside text values old new (Err fault) (inr (_, _, same)) =
    record { was_open = λ _. same.0.was_open; committed = λ _. same.0.committed_is }

-- One after the other, neither commits.
pub keeps_then : (old mid new : State) → KeepsCommit old mid → KeepsCommit mid new → KeepsCommit old new
keeps_then old mid new first second = record {
  was_open = λ h. first.was_open (second.was_open h);
  committed = λ h. second.committed h ∙ first.committed (second.was_open h);
}

-- A transaction that is rolled back leaves the database as it was.
pub back_from : (old begun last end : State) → begun.committed ≡ old.committed
    → (IsTrue begun.is_open → old.now ≡ old.committed) → KeepsCommit begun last
    → IsRolledBack last end → IsTrue end.is_open
    → (end.now ≡ old.now) × (end.committed ≡ old.committed)
back_from old begun last end same settled kept back is_open =
    let was = back.was_open is_open in
    let first : last.committed ≡ old.committed = kept.committed was ∙ same in
    let now = (back.undone is_open).0 ∙ first ∙ sym (settled (kept.was_open was)) in
    (now, (back.undone is_open).1 ∙ first)

-- So does a commit that fails in a transaction that goes on.
pub back_from_commit : (old begun last end : State) (fault : Error) → begun.committed ≡ old.committed
    → (IsTrue begun.is_open → old.now ≡ old.committed) → KeepsCommit begun last
    → IsTrue last.in_transaction → FailsToCommit last end fault → IsTrue end.is_open
    → (end.now ≡ old.now) × (end.committed ≡ old.committed)
back_from_commit old begun last end fault same settled kept inside (inl fails) is_open =
    back_from old begun last end same settled kept fails.3 is_open
back_from_commit old begun last end fault same settled kept inside (inr (_, ended, _)) is_open =
    absurd (let never = sym ended ∙ inside in cc)

-- What holds anyway holds at an error.
pub at_error : {T E P : Type 0} (result : Result T E) → P → OnErr result P
at_error (Ok value) holds = tt
at_error (Err fault) holds = holds
