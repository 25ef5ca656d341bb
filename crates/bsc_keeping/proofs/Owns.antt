-- The ends of channels that are added one number after another.
use Rattle.std.proofs.Common.{◌≡◌, ◌∙◌, ℕ, ◌+◌, List, ◌++◌, ap, sym, append_assoc, add-one}
use Rattle.bsc_keeping.specs.Own.{each_of}

-- the ends of one more number
pub each_of_more : {A : Type 0} (first before after : List A) (f : ℕ → List A) (n : ℕ)
    → before ≡ first ++ each_of f n → after ≡ before ++ f n
    → after ≡ first ++ each_of f (n + 1)
each_of_more first before after f n is more =
    more
    ∙ (ap (λ xs. xs ++ f n) is
    ∙ (append_assoc first (each_of f n) (f n)
    ∙ ap (λ m. first ++ each_of f m) (sym (add-one n))))
