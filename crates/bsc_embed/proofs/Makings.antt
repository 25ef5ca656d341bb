-- What is made by a handle that has nothing.
use Rattle.std.proofs.Common.{◌≡◌, inl, inr, refl, sym, subst, ℕ, Bool, false, true}
use Rattle.std.specs.Prelude.{Option, Some, None, Result, Ok, Err, is_some}
use Rattle.bsc_embed.specs.declared.handles.made.Made.{Made}
use Rattle.bsc_embed.specs.Faults.{fault_number}
use Rattle.bsc_embed.specs.declared.interface.fault.Fault.{Fault}
use Rattle.bsc_embed.specs.declared.interface.fault.Fault.TheVariants.{Memory}
use Rattle.bsc_embed.specs.Making.{IsKept, IsMadeBy}

-- A handle of which it was tested that nothing was made has nothing.
pub has_nothing : (o : Option Made) → is_some o ≡ false → o ≡ None
has_nothing None e = refl
has_nothing (Some m) e = cc

-- What was made is kept, or there is no memory for it.
pub made_and_kept : {S : Type 0} (make : S → Made) (answers : Result S Fault → Type 0)
    (old new : Option Made) (n : ℕ) (s : S) → old ≡ None → answers (Ok s)
    → IsKept (make s) new n → IsMadeBy make answers old new n
made_and_kept make answers old new n s e a (inl k) =
    subst (λ (o : Option Made). IsMadeBy make answers o new n) (sym e) (inl (s, k.0, k.1, a))
made_and_kept make answers old new n s e a (inr k) =
    subst (λ (o : Option Made). IsMadeBy make answers o new n) (sym e)
    (inr (Memory, k.0, k.1, inr refl))

-- Nothing was made, for this reason.
pub not_made : {S : Type 0} (make : S → Made) (answers : Result S Fault → Type 0)
    (old new : Option Made) (n : ℕ) (f : Fault) → old ≡ None → new ≡ None → answers (Err f)
    → n ≡ fault_number f → IsMadeBy make answers old new n
not_made make answers old new n f e k a number =
    subst (λ (o : Option Made). IsMadeBy make answers o new n) (sym e)
    (inr (f, k, number, inl a))
