-- What holds of a slice that was lent and written back holds of its vector.
use Rattle.std.proofs.Common.{◌≡◌, ℕ, List, ◌++◌, length, take, sym, ap, ◌∙◌, subst}
use Rattle.std.proofs.Math.Seq.{take-append_seam}

module _ {S : Type 0} where
  written_back : (n : ℕ) (new rest : List S) → length new ≡ n → take n (new ++ rest) ≡ new
  written_back n new rest long = ap (λ k. take k (new ++ rest)) (sym long)
      ∙ take-append_seam new rest

  pub holds_back : (P : List S → List S → Type 0) (n : ℕ) (old lent new rest : List S) → lent ≡ old
      → length new ≡ n → P lent new → P old (take n (new ++ rest))
  holds_back P n old lent new rest same long holds =
      subst (P old) (sym (written_back n new rest long)) (subst (λ l. P l new) same holds)
