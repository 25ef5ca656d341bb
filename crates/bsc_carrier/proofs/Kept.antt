-- The octets that are kept when a piece is added to those that were kept.
use Rattle.std.proofs.Common.{◌≡◌, ℕ, zero, suc, ◌+◌, ◌-◌, ◌≤◌, min, List, [], ◌∷◌, ◌++◌, length}
use Rattle.std.proofs.Common.{take, refl, sym, ◌∙◌, ap, arith}
use Rattle.std.proofs.lemmas.List.{take_min}
use Rattle.std.proofs.Math.Seq.{take-append-add}

pub take_of_appended : (n : ℕ) (held piece : List ℕ) → length held ≤ n
    → take n (held ++ piece) ≡ held ++ take (min (n - length held) (length piece)) piece
take_of_appended n held piece fits =
    let split : n ≡ length held + (n - length held) = omega (arith, fits) in
    ap (λ (k : ℕ). take k (held ++ piece)) split
    ∙ take-append-add held piece (n - length held)
    ∙ ap (λ (xs : List ℕ). held ++ xs) (sym (take_min (n - length held) piece))

-- what is kept after a piece is that of what was kept before it and of the piece
pub take_again : (n : ℕ) (held more : List ℕ) → take n (take n held ++ more) ≡ take n (held ++ more)
take_again zero held more = refl
take_again (suc n) [] more = refl
take_again (suc n) (x ∷ held) more = ap (λ l. x ∷ l) (take_again n held more)
