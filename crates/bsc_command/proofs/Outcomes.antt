-- Arguments that may not be available, and the outcome of the work that they ask for.
use Rattle.std.proofs.Common.{◌≡◌, ◌⊎◌, ℕ, List, Option, Result, Ok, Err, inl, inr, subst}
use Rattle.std.proofs.Common.{IsOkAnd}
use Rattle.std.specs.Io.KnownBytes.{Keeps}
use Rattle.std.specs.Prelude.{IfErr, IfOk, OnOk}
use Rattle.bsc_command.specs.declared.fault.Fault.{Fault}
use Rattle.bsc_command.specs.declared.fault.Fault.TheVariants.{Output, OutOfMemory}
use Rattle.bsc_command.specs.Faults.{IsEarly, IsPrintFault}

-- a property of the available arguments, and a consequence of it
pub and_then : {V F : Type 0} (words : Result V F) {P Q : V → Type 0} → ((v : V) → P v → Q v)
    → IsOkAnd words P → IsOkAnd words Q
and_then (Ok v) f p = f v p
and_then (Err fault) f p = p

-- the promise for successful work
pub promise_of_success : {F P : Type 0} (outcome : Result (Unit {0}) F) → outcome ≡ Ok tt → OnOk outcome P → P
promise_of_success (Ok x) e p = p
promise_of_success (Err fault) e p = absurd (cc)

-- the reported fault is that of printing or that of the work: for available arguments the fault of
-- their work, otherwise the fault in place of them
pub fault_told : {V F : Type 0} (words : Result V F) (At Told : V → F → Type 0)
    (Prints : F → Type 0) (outcome : Result (Unit {0}) F) (fault : F)
    → ((v : V) → Prints fault → Told v fault) → ((v : V) → At v fault → Told v fault)
    → IfErr outcome (λ f. IfOk words (λ v. At v f) × IfErr words (λ given. f ≡ given))
    → Prints fault ⊎ (outcome ≡ Err fault)
    → IfOk words (λ v. Told v fault) × IfErr words (λ given. (fault ≡ given) ⊎ Prints fault)
fault_told (Ok v) At Told Prints outcome fault print kept p (inl printing) = (print v printing, tt)
fault_told (Err given) At Told Prints outcome fault print kept p (inl printing) = (tt, inr printing)
fault_told (Ok v) At Told Prints outcome fault print kept p (inr e) =
    let told = subst (λ o. IfErr o (λ f. At v f × Unit {0})) e p in (kept v told.0, tt)
fault_told (Err given) At Told Prints outcome fault print kept p (inr e) =
    let told = subst (λ o. IfErr o (λ f. Unit {0} × (f ≡ given))) e p in (tt, inl told.1)

-- so it is of what is said of available arguments only
pub told_of : {V F : Type 0} (words : Result V F) (At Told : V → F → Type 0) (Prints : F → Type 0)
    (outcome : Result (Unit {0}) F) (fault : F)
    → ((v : V) → Prints fault → Told v fault) → ((v : V) → At v fault → Told v fault)
    → IfErr outcome (λ f. IfOk words (λ v. At v f))
    → Prints fault ⊎ (outcome ≡ Err fault) → IfOk words (λ v. Told v fault)
told_of (Ok v) At Told Prints outcome fault print kept p (inl printing) = print v printing
told_of (Ok v) At Told Prints outcome fault print kept p (inr e) =
    kept v (subst (λ o. IfErr o (λ f. At v f)) e p)
told_of (Err given) At Told Prints outcome fault print kept p told = tt

-- a fault of printing comes after something may have been printed
not_early : (f : Fault) → IsPrintFault f → IsEarly f → ⊥
not_early Output p early = early
not_early OutOfMemory p early = early
not_early f p early = p

-- before an early fault nothing is written, and a flush writes nothing of its own
pub early_kept : {W : Type 0} (contents : W → Option (List ℕ)) (outcome : Result (Unit {0}) Fault)
    (f : Fault) (old mid new : W) → IfErr outcome (λ f. IsEarly f → mid ≡ old)
    → Keeps (contents mid) (contents new) → IsPrintFault f ⊎ (outcome ≡ Err f)
    → IsEarly f → Keeps (contents old) (contents new)
early_kept contents outcome f old mid new same kept (inl p) early = absurd (not_early f p early)
early_kept contents outcome f old mid new same kept (inr e) early =
    subst (λ w. Keeps (contents w) (contents new))
    (subst (λ o. IfErr o (λ f. IsEarly f → mid ≡ old)) e same early) kept
