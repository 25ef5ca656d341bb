-- What a call says of the database that it was given, where that is not known any more.
use Rattle.std.proofs.Common.{List, ℕ, Option, Result, Ok, Err, IfOk}
use Rattle.sqlite.specs.Store.{Ghosts}
use Rattle.sqlite.specs.State.{HasCleanDisk}
use Rattle.sqlite.specs.Held.{Held, state}
use Rattle.bsc_store.specs.declared.checks.Marks.{Marks}
use Rattle.bsc_store.specs.Making.{IsBegun, IsNewStore}
use Rattle.bsc_store.specs.Reading.{IsStoreOf, IsStoreOfItself, IsOpenedStore, OnlyRead}

pub new_store : {S X E : Type 0} (g : Ghosts S) (line : List ℕ) (at : X → Held S) (old : Held S)
    (r : Result X E) → IfOk r (λ x. HasCleanDisk (state g (at x)) → IsBegun g line old (at x))
    → IfOk r (λ x. IsNewStore g line (at x))
new_store g line at old (Ok x) made = (old, made)
new_store g line at old (Err e) made = tt

pub opened : {S X E : Type 0} (g : Ghosts S) (line : X → List ℕ) (marks : X → Option Marks)
    (at : X → Held S) (old : Held S) (r : Result X E)
    → IfOk r (λ x. HasCleanDisk (state g (at x)) → IsStoreOfItself g (line x) (marks x) (at x))
    → IfOk r (λ x. OnlyRead g old (at x)) → IfOk r (λ x. IsOpenedStore g (line x) (marks x) (at x))
opened g line marks at old (Ok x) is read = record { old = old; read = read; is = is }
opened g line marks at old (Err e) is read = tt

pub store_itself : {S X E : Type 0} (g : Ghosts S) (line : List ℕ) (marks : X → Option Marks)
    (at : X → Held S) (old : Held S) (r : Result X E)
    → IfOk r (λ x. HasCleanDisk (state g (at x)) → IsStoreOf g line (marks x) old (at x))
    → IfOk r (λ x. HasCleanDisk (state g (at x)) → IsStoreOfItself g line (marks x) (at x))
store_itself g line marks at old (Ok x) is = λ clean. (old, is clean)
store_itself g line marks at old (Err e) is = tt
